-- Promise: Which task sent the command of an issue or asked an operator by it, and which task a record is of.
use Rattle.std.specs.Prelude.{ℕ, List, [], flat_map, Option, Some, None, option_map, option_to_list, slice_get}
use Rattle.std.specs.Option.{option_map_or}
use Rattle.run_records.specs.declared.record.Record.{Record}
use Rattle.run_records.specs.declared.record.Record.TheVariants as entry
use Rattle.flow_core_rules.specs.Lines.{key_of}
use Rattle.flow_core_rules.specs.State.{Shown}
use Rattle.cacao_view_log.specs.declared.sender.Sender.{Sender}

-- the task that a record has send or ask, and the filter; that of an operator is 0
abbrev pub sender_of : Record → Option Sender
sender_of (entry.Send task issue agent moment bytes) = Some (record { task = task; agent = agent })
sender_of (entry.Ask task issue moment bytes) = Some (record { task = task; agent = 0 })
sender_of other = None

abbrev pub sender_in : Record → List Sender
sender_in r = option_to_list (sender_of r)

-- those of records, in order: issues are numbered from 0 in this order
abbrev pub senders : List Record → List Sender
senders records = flat_map sender_in records

-- who sent or asked what the record answers, tells or ends, by the senders before it
abbrev pub sender_for : List Sender → Record → Option Sender
sender_for sent (entry.Reply issue moment status rule text) = slice_get sent issue
sender_for sent (entry.Expire issue moment) = slice_get sent issue
sender_for sent (entry.Told issue moment status text) = slice_get sent issue
sender_for sent other = None

abbrev pub sender_task : Option Sender → Option ℕ
sender_task sender = option_map (λ s. s.task) sender

-- the task that a record is of
abbrev pub task_for : List Sender → Record → Option ℕ
task_for sent (entry.Walk task moment) = Some task
task_for sent (entry.Send task issue agent moment bytes) = Some task
task_for sent (entry.Ask task issue moment bytes) = Some task
task_for sent (entry.Reply issue moment status rule text) = sender_task (slice_get sent issue)
task_for sent (entry.Expire issue moment) = sender_task (slice_get sent issue)
task_for sent (entry.Told issue moment status text) = sender_task (slice_get sent issue)
task_for sent other = None

-- the key of the step at which that task stands before the record
abbrev pub step_key : Shown → List Sender → Record → List ℕ
step_key before sent r = option_map_or (key_of before) (task_for sent r) []
