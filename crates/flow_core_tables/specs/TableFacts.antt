-- Scaffold: What the tables of a run hold, by what they show.
use Rattle.std.specs.Prelude.{◌≡◌, ℕ, ◌+◌, ◌<◌, ◌≤◌, ◌&&◌, Bool, false, not, [], length, drop, count_by, Option, Some, None, slice_get, option_and_then, ⊤, vec_len, vec_capacity, if◌then◌else◌}
use Rattle.std.specs.List.{list_any}
use Rattle.base_dues.specs.Pairs.{at}
use Rattle.flow_core_rules.specs.declared.tasks.Task.{Task}
use Rattle.flow_core_rules.specs.declared.issues.Issue.{Issue}
use Rattle.flow_core_rules.specs.declared.phases.Phase.{Phase}
use Rattle.flow_core_rules.specs.declared.phases.Phase.TheVariants as phase
use Rattle.flow_core_rules.specs.Givens.{Given}
use Rattle.flow_core_rules.specs.State.{Lists, Shown}
use Rattle.flow_core_rules.specs.Changes.{has_ended, has_failed, is_child_of}
use Rattle.flow_core_rules.specs.Moves.{ready_at, delay_of, deadline_of, has_deadline, is_question}
use Rattle.flow_core_tables.specs.declared.tables.Tables.{Tables}
use Rattle.flow_core_tables.specs.declared.tables.Wait.{Wait}

-- the lists of a run
abbrev pub lists_of : Tables → Lists
lists_of t = record {
  is_upgraded = t.is_upgraded;
  tasks = t.tasks.items;
  scopes = t.opened.scopes;
  texts = t.opened.texts;
  issues = t.issues.items;
}

-- the lists before the first record
abbrev pub blank_lists : Lists
blank_lists = record { is_upgraded = false; tasks = []; scopes = []; texts = []; issues = [] }

-- These lists, with what was given: all that the tables rest on. The moment and the number of the run play no part.
abbrev pub seen_with : Given → Lists → Shown
seen_with given lists = record { moment = 0; run = 0; given = given; lists = lists }

-- ---- what each table holds of a task or an issue

-- the moment from which a task can go on, if it stands where it can
abbrev pub ready_of : Shown → ℕ → Option ℕ
ready_of s t = option_and_then (λ (task : Task). ready_at s t task task.phase) (slice_get s.lists.tasks t)

-- the moment at which the delay of a task runs out that stands before its step
abbrev pub delay_in : Shown → Task → Phase → Option ℕ
delay_in s task (phase.At since) = Some (since + delay_of s task)
delay_in s task other = None

abbrev pub delay_until_of : Shown → ℕ → Option ℕ
delay_until_of s t = option_and_then (λ (task : Task). delay_in s task task.phase) (slice_get s.lists.tasks t)

-- the deadline of an issue that has one
abbrev pub deadline_at : Shown → ℕ → Option ℕ
deadline_at s n =
    option_and_then (λ (issue : Issue). if has_deadline issue then Some (deadline_of s issue) else None)
    (slice_get s.lists.issues n)

-- 0 for each issue that waits for an operator
abbrev pub question_at : Shown → ℕ → Option ℕ
question_at s n = option_and_then (λ (issue : Issue). if is_question issue then Some 0 else None) (slice_get s.lists.issues n)

-- a child of this task that has not ended
abbrev pub goes_on : ℕ → Task → Bool
goes_on t task = is_child_of t task && not (has_ended task.phase)

abbrev pub failed_child : ℕ → Task → Bool
failed_child t task = is_child_of t task && has_failed task.phase

-- Of a task that joins: how many of those that it waits for have not ended, and whether one of them has failed.
abbrev pub Counts : Lists → ℕ → Phase → Wait → Type 0
Counts s t (phase.Joining from) wait =
    (wait.open ≡ count_by (goes_on t) (drop from s.tasks)) × (wait.failed ≡ list_any (failed_child t) (drop from s.tasks))
Counts s t other wait = ⊤

-- ---- the tables

pub record HasTables (s : Shown) (t : Tables) : Type 0 where
  pub waits_len : length t.waits.items ≡ length s.lists.tasks
  pub texts_len : length s.lists.texts ≡ length s.lists.scopes
  pub waits : (n : ℕ) (task : Task) (wait : Wait) → slice_get s.lists.tasks n ≡ Some task → slice_get t.waits.items n ≡ Some wait
      → Counts s.lists n task.phase wait
  pub ready : (n : ℕ) → at t.ready.pairs n ≡ ready_of s n
  pub delays : (n : ℕ) → at t.delays.pairs n ≡ delay_until_of s n
  pub deadlines : (n : ℕ) → at t.deadlines.pairs n ≡ deadline_at s n
  pub questions : (n : ℕ) → at t.questions.pairs n ≡ question_at s n
  pub owners : (n : ℕ) (issue : Issue) → slice_get s.lists.issues n ≡ Some issue → issue.task < length s.lists.tasks

-- there is room for so many more edits
pub record HasRoom (more : ℕ) (t : Tables) : Type 0 where
  pub tasks : vec_len t.tasks + more ≤ vec_capacity t.tasks
  pub waits : vec_len t.waits + more ≤ vec_capacity t.waits
  pub scopes : length t.opened.scopes + more ≤ t.opened.room
  pub issues : vec_len t.issues + more ≤ vec_capacity t.issues
  pub ready : vec_len t.tasks + more ≤ t.ready.room
  pub delays : vec_len t.tasks + more ≤ t.delays.room
  pub deadlines : vec_len t.issues + more ≤ t.deadlines.room
  pub questions : vec_len t.issues + more ≤ t.questions.room

-- tasks and issues can be numbered
pub record IsSmall (s : Lists) : Type 0 where
  pub tasks : length s.tasks ≤ 1_000_000
  pub scopes : length s.scopes ≤ 200_000_001
  pub issues : length s.issues ≤ 100_000_001
