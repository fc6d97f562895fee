-- Promise: Runs: what each record leads to.
use Rattle.std.specs.Prelude.{◌≡◌, ℕ, ◌≤◌, false, List, [], ◌∷◌, ◌++◌, Option, Some, None, IsSome, option_map, slice_get, map}
use Rattle.run_records.specs.declared.record.Record.{Record}
use Rattle.run_records.specs.declared.record.Record.TheVariants as entry
use Rattle.run_records.specs.Ranges.{last_moment}
use Rattle.cacao_book.specs.declared.books.Book.{Book}
use Rattle.flow_core_rules.specs.declared.tasks.Task.{Task}
use Rattle.flow_core_rules.specs.declared.phases.Phase.TheVariants as phase
use Rattle.flow_core_rules.specs.Givens.{Given, number_of_step}
use Rattle.flow_core_rules.specs.State.{State, Shown, shown}
use Rattle.flow_core_rules.specs.Edits.{Edit, opens, writes, makes, all_edited, all_shown_edited}
use Rattle.flow_core_rules.specs.Changes.{change, moment_of, outcome}

-- ---- the first record

-- a run before its Begin
abbrev pub blank : Given → ℕ → State
blank given run = record {
  moment = 0;
  run = run;
  given = given;
  is_upgraded = false;
  tasks = [];
  scopes = [];
  writes = [];
  issues = [];
}

-- the first task stands before the start of the first playbook
abbrev pub first_task : Given → ℕ → Book → Task
first_task given now book = record {
  parent = None;
  book = 0;
  step = number_of_step given 0 book.start;
  scope = 0;
  step_scope = None;
  phase = phase.At now;
  excepted = false;
}

-- A Begin opens the first playbook's scope, writes the bound texts there, and makes the first task.
abbrev pub first_edits : Given → ℕ → Option (List Edit)
first_edits given now =
    option_map (λ book. opens None book.variables ∷ (map (λ bound. writes 0 bound.0 bound.1) given.variables
    ++ makes (first_task given now book) ∷ []))
    (slice_get given.books 0)

-- the Begin of a run at a moment
abbrev pub begin_of : Given → ℕ → ℕ → Record
begin_of given run now = entry.Begin run now given.texts given.bind

-- ---- the state after a record

-- the state after a record with these edits: all else stays, but the moment
abbrev pub after : ℕ → List Edit → State → State
after now edits s = record (all_edited edits s) { moment = now }

-- the same of what is shown
abbrev pub shown_after : ℕ → List Edit → Shown → Shown
shown_after now edits s = record s { moment = now; lists = all_shown_edited edits s.lists }

-- The record may come next, and leads to a new state.
pub record Next (s : State) (r : Record) (new : State) : Type 0 where
  pub edits : List Edit
  pub change_is : change (shown s) r ≡ Some edits
  pub new_is : new ≡ after (moment_of r) edits s

-- the state after the Begin
abbrev pub begun : Given → ℕ → ℕ → Option State
begun given run now = option_map (λ edits. after now edits (blank given run)) (first_edits given now)

-- records lead from one state to another, each by the rule of its kind
abbrev pub GoesOn : State → List Record → State → Type 0
GoesOn s [] new = s ≡ new
GoesOn s (r ∷ records) new = (mid : State) × Next s r mid × GoesOn mid records new

-- The records are a run of what was given, accepted or not, and lead to this state: first its Begin, at a moment that is not
-- past the last one.
pub record Leads (given : Given) (run : ℕ) (records : List Record) (new : State) : Type 0 where
  pub now : ℕ
  pub others : List Record
  pub first : State
  pub in_time : now ≤ last_moment
  pub records_are : records ≡ begin_of given run now ∷ others
  pub begins : begun given run now ≡ Some first
  pub goes_on : GoesOn first others new

-- ---- enabled and ended

-- the record may come next
abbrev pub IsEnabled : State → Record → Type 0
IsEnabled s r = IsSome (change (shown s) r)

-- the first task has ended
abbrev pub IsEnded : State → Type 0
IsEnded s = IsSome (outcome (shown s).lists)
