-- Promise: At which steps the records of a run walked, and from which they sent commands and asked operators.
use Rattle.std.specs.Prelude.{◌≡◌, ℕ, List, [], ◌∷◌, ◌++◌, map, Option, Some, None, option_and_then, option_to_list, slice_get}
use Rattle.std.specs.Option.{option_map_or}
use Rattle.run_records.specs.declared.record.Record.{Record}
use Rattle.run_records.specs.declared.record.Record.TheVariants as entry
use Rattle.flow_core_rules.specs.Changes.{change, moment_of}
use Rattle.flow_core_rules.specs.Givens.{Given}
use Rattle.flow_core_rules.specs.Runs.{shown_after}
use Rattle.flow_core_rules.specs.State.{Shown}
use Rattle.flow_core_rules.specs.declared.tasks.Task.{Task}
use Rattle.flow_engine_history.specs.Histories.{IsShownAfter}
use Rattle.cacao_view_graph.specs.declared.spot.Spot.{Spot}

-- the step at which a task stands
abbrev pub spot_of : Task → Spot
spot_of task = record { book = task.book; step = task.step }

-- the same of the task with this number, if there is one
abbrev pub spots : Shown → Option ℕ → List Spot
spots s number = map spot_of (option_to_list (option_and_then (slice_get s.lists.tasks) number))

-- the task whose step a record walked
abbrev pub walked_task : Record → Option ℕ
walked_task (entry.Walk task moment) = Some task
walked_task other = None

-- the task from whose step it sent a command, or asked an operator
abbrev pub sent_task : Record → Option ℕ
sent_task (entry.Send task issue agent moment bytes) = Some task
sent_task (entry.Ask task issue moment bytes) = Some task
sent_task other = None

-- these steps, by what is shown before the record
abbrev pub walked_by : Shown → Record → List Spot
walked_by s r = spots s (walked_task r)

abbrev pub sent_by : Shown → Record → List Spot
sent_by s r = spots s (sent_task r)

-- what is shown behind a record that may come next
abbrev pub behind : Shown → Record → Shown
behind s r = option_map_or (λ edits. shown_after (moment_of r) edits s) (change s r) s

-- the same of several records
abbrev pub behind_all : Shown → List Record → Shown
behind_all s [] = s
behind_all s (r ∷ rs) = behind_all (behind s r) rs

-- the steps that they walked, in order, by what is shown before the first of them
abbrev pub walks : Shown → List Record → List Spot
walks s [] = []
walks s (r ∷ rs) = walked_by s r ++ walks (behind s r) rs

-- the steps from which they sent and asked: of each issue, in order
abbrev pub sends : Shown → List Record → List Spot
sends s [] = []
sends s (r ∷ rs) = sent_by s r ++ sends (behind s r) rs

-- so went the records of a run: behind the Begin they walked and sent there
pub record IsCourse (given : Given) (run : ℕ) (records : List Record) (walked sent : List Spot) : Type 0 where
  pub begin : Record
  pub others : List Record
  pub first : Shown
  pub are : records ≡ begin ∷ others
  pub shows : IsShownAfter given run (begin ∷ []) first
  pub walked_are : walked ≡ walks first others
  pub sent_are : sent ≡ sends first others
