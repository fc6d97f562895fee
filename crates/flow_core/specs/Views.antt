-- Promise: What contracts see of a flow, and its answers.
use Rattle.std.specs.Prelude.{◌≡◌, ℕ, suc, ◌+◌, ◌==◌, nat_lt, Bool, true, false, not, List, length, count_by, Option, Some, None, IsSome, Result, Ok, Err, ⊤, option_and_then, if◌then◌else◌}
use Rattle.std.specs.Str.{IsUtf8}
use Rattle.std.specs.List.{list_any}
use Rattle.run_records.specs.declared.record.Record.{Record}
use Rattle.run_records.specs.declared.record.Record.TheVariants as entry
use Rattle.run_records.specs.Ranges.{most_text}
use Rattle.flow_core_rules.specs.declared.moves.Move.{Move}
use Rattle.flow_core_rules.specs.Givens.{Given}
use Rattle.flow_core_rules.specs.State.{Shown}
use Rattle.flow_core_rules.specs.Edits.{Edit}
use Rattle.flow_core_rules.specs.Edits.Edit.{makes, issues}
use Rattle.flow_core_rules.specs.Changes.{change, moment_of}
use Rattle.flow_core_rules.specs.Runs.{shown_after}
use Rattle.flow_core_rules.specs.Moves.{record_of}
use Rattle.flow_core_plans.specs.TableFacts.{blank_lists}
pub use Rattle.flow_core_plans.specs.Begins.{begins}
use Rattle.flow_core.specs.declared.flow_errors.FlowError.{FlowError}
use Rattle.flow_core.specs.declared.flow_errors.FlowError.TheVariants as flow_error
use Rattle.flow_core.specs.declared.flow_errors.LimitKind.{LimitKind}
use Rattle.flow_core.specs.declared.flow_errors.LimitKind.TheVariants as limit

-- How many records it took, what it shows, and the record that it is ready for: its moment, and what it changes.
pub record View : Type 0 where
  pub count : ℕ
  pub seen : Shown
  pub plan : Option (ℕ × List Edit)

-- what an operator is asked is a text
abbrev pub AsksText : Record → Type 0
AsksText (entry.Ask task issue moment bytes) = IsUtf8 bytes
AsksText other = ⊤

-- its Begin is among them
abbrev pub has_begun : View → Bool
has_begun v = not (v.count == 0)

-- what is shown before the Begin
abbrev pub blank_shown : Given → ℕ → Shown
blank_shown given run = record { moment = 0; run = run; given = given; lists = blank_lists }

-- what a record changes, where it may come next
abbrev pub taken : View → Record → Option (List Edit)
taken v r = if has_begun v then change v.seen r else begins v.seen r

-- The flow is ready for that record: it has the plan of what that changes.
pub record IsReadyFor (v : View) (r : Record) : Type 0 where
  pub edits : List Edit
  pub taken_is : taken v r ≡ Some edits
  pub plan_is : v.plan ≡ Some (moment_of r, edits)

-- a record with these edits was taken
abbrev pub stepped : ℕ × List Edit → View → View
stepped plan v = record { count = suc v.count; seen = shown_after plan.0 plan.1 v.seen; plan = None }

-- the record was taken
abbrev pub Takes : View → Record → View → Type 0
Takes v r new = (edits : List Edit) → taken v r ≡ Some edits → new ≡ stepped (moment_of r, edits) v

-- ---- limits

abbrev pub is_makes : Edit → Bool
is_makes (makes task) = true
is_makes other = false

abbrev pub is_long_command : Edit → Bool
is_long_command (issues issue) = nat_lt most_text (length issue.bytes)
is_long_command other = false

abbrev pub most_tasks : ℕ
most_tasks = 1_000_000

-- the limit that these edits pass: too many tasks, or a command that is too long
abbrev pub passed : Shown → List Edit → Option LimitKind
passed s edits =
    if nat_lt most_tasks (length s.lists.tasks + count_by is_makes edits) then Some limit.Tasks
    else if list_any is_long_command edits then Some limit.Command else None

-- Why a record was not taken: it may not come next, or it passes a limit. Want of memory is free.
abbrev pub Refuses : View → FlowError → Option (List Edit) → Type 0
Refuses v flow_error.NotEnabled edits = edits ≡ None
Refuses v (flow_error.Limit what) edits = option_and_then (passed v.seen) edits ≡ Some what
Refuses v flow_error.Memory edits = ⊤

-- the answer about a record that changes so much, if it may come next
abbrev pub Answers : {A : Type 0} → View → Result A FlowError → Option (List Edit) → Type 0
Answers v (Ok x) edits = IsSome edits × (option_and_then (passed v.seen) edits ≡ None)
Answers v (Err e) edits = Refuses v e edits

-- what the record of a move changes at a moment
abbrev pub taken_by : View → ℕ → Move → Option (List Edit)
taken_by v now step = option_and_then (taken v) (record_of v.seen now step)
