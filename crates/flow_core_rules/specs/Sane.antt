-- Promise: What holds of the tasks, scopes and issues of each state of a run, and why a run is never stuck.
use Rattle.std.specs.Prelude.{◌≡◌, ◌⊎◌, ◌↔◌, ℕ, ◌+◌, ◌<◌, ◌≤◌, ◌==◌, true, false, List, length, Some, None, IsSome, IfSome, slice_get, ⊤}
use Rattle.std.specs.List.{list_all}
use Rattle.run_records.specs.declared.record.Record.TheVariants as entry
use Rattle.run_records.specs.Ranges.{last_moment}
use Rattle.cacao_vars.specs.declared.scoping.Scope.{Scope}
use Rattle.flow_core_rules.specs.declared.tasks.Task.{Task}
use Rattle.flow_core_rules.specs.declared.issues.Issue.{Issue}
use Rattle.flow_core_rules.specs.declared.phases.Phase.{Phase}
use Rattle.flow_core_rules.specs.declared.phases.Phase.TheVariants as phase
use Rattle.flow_core_rules.specs.State.{Shown}
use Rattle.flow_core_rules.specs.Givens.{step_at}
use Rattle.flow_core_rules.specs.Changes.{children, has_ended, is_waiting, waiting_at, is_answer, is_in_time, walk, next_command, next_question, change, outcome}
use Rattle.flow_core_rules.specs.Moves.{delay_of, deadline_of, enabled_move, due, asks}

-- the issue that a task awaits is its own, waits, and is found at each moment
pub record AwaitsOwn (s : Shown) (t n : ℕ) : Type 0 where
  pub issue : Issue
  pub issue_is : slice_get s.lists.issues n ≡ Some issue
  pub waits : is_waiting issue.phase ≡ true
  pub owner : issue.task ≡ t
  pub found : (now : ℕ) → IsSome (waiting_at s now n)

-- A task that stands before its step goes on from the step's delay on; one that stands at a place can send or ask; one that
-- awaits an issue has one of its own that waits; one that joins waits for later tasks alone, and goes on once they have ended.
abbrev pub IsSaneAt : Shown → ℕ → Task → Phase → Type 0
IsSaneAt s t task (phase.At since) = (now : ℕ) → since + delay_of s task ≤ now → IsSome (walk s now t)
IsSaneAt s t task (phase.Sending place) = (now : ℕ) → IsSome (next_command s now t) ⊎ IsSome (next_question s now t)
IsSaneAt s t task (phase.Awaiting place issue) = AwaitsOwn s t issue
IsSaneAt s t task (phase.Joining from) =
    (t < from) × (list_all (λ one. has_ended one.phase) (children s.lists t from) ≡ true → (now : ℕ) → IsSome (walk s now t))
IsSaneAt s t task (phase.Ended well) = ⊤

-- the task that made this one is earlier, and while this one goes on it waits for it
abbrev pub JoinsFrom : ℕ → Phase → Type 0
JoinsFrom t (phase.Joining from) = from ≤ t
JoinsFrom t other = ⊥

pub record IsAwaitedBy (s : Shown) (t : ℕ) (phase : Phase) (parent : ℕ) : Type 0 where
  pub is_earlier : parent < t
  pub by : Task
  pub by_is : slice_get s.lists.tasks parent ≡ Some by
  pub joins : has_ended phase ≡ false → JoinsFrom t by.phase

-- A task stands at a step of its playbook, as its phase asks, and its parent waits for it; the first one alone has none. Its
-- scopes are there.
pub record IsSaneTask (s : Shown) (t : ℕ) (task : Task) : Type 0 where
  pub step : IsSome (step_at s.given task.book task.step)
  pub phase : IsSaneAt s t task task.phase
  pub parent : IfSome task.parent (IsAwaitedBy s t task.phase)
  pub first : (task.parent ≡ None) ↔ (t ≡ 0)
  pub scope : task.scope < length s.lists.scopes
  pub step_scope : IfSome task.step_scope (λ n. n < length s.lists.scopes)

-- an issue that waits is awaited by its task
pub record IsSaneIssue (s : Shown) (n : ℕ) (issue : Issue) : Type 0 where
  pub task : Task
  pub place : ℕ
  pub task_is : slice_get s.lists.tasks issue.task ≡ Some task
  pub awaits : is_waiting issue.phase ≡ true → task.phase ≡ phase.Awaiting place n

-- the scope around a scope is an earlier one
abbrev pub IsSaneScope : ℕ → Scope → Type 0
IsSaneScope n scope = IfSome scope.parent (λ around. around < n)

pub record IsSane (s : Shown) : Type 0 where
  pub first : Task
  pub first_is : slice_get s.lists.tasks 0 ≡ Some first
  pub tasks : (t : ℕ) (task : Task) → slice_get s.lists.tasks t ≡ Some task → IsSaneTask s t task
  pub issues : (n : ℕ) (issue : Issue) → slice_get s.lists.issues n ≡ Some issue → IsSaneIssue s n issue
  pub scopes : (n : ℕ) (scope : Scope) → slice_get s.lists.scopes n ≡ Some scope → IsSaneScope n scope

-- A waiting issue can end, at each moment at which a record may come next: a filter's is answered, and expires from its deadline
-- on; any is told, once the run is upgraded.
pub record CanEnd (s : Shown) (n : ℕ) (issue : Issue) : Type 0 where
  pub answered : (now status rule : ℕ) (text : List ℕ) → is_in_time s now ≡ true → is_answer status text ≡ true
      → (issue.agent == 0) ≡ false → IsSome (change s (entry.Reply n now status rule text))
  pub told : (now status : ℕ) (text : List ℕ) → is_in_time s now ≡ true → is_answer status text ≡ true
      → s.lists.is_upgraded ≡ true → IsSome (change s (entry.Told n now status text))
  pub expires : (now : ℕ) → is_in_time s now ≡ true → deadline_of s issue ≤ now → (issue.agent == 0) ≡ false
      → IsSome (change s (entry.Expire n now))

-- each task has ended, and no issue waits
pub record IsAllOver (s : Shown) : Type 0 where
  pub tasks : (t : ℕ) (task : Task) → slice_get s.lists.tasks t ≡ Some task → has_ended task.phase ≡ true
  pub issues : (n : ℕ) (issue : Issue) → slice_get s.lists.issues n ≡ Some issue → is_waiting issue.phase ≡ false

-- While a run goes on and has no move at a moment, a delay or a deadline is waited for, or an operator is. (Where a question is
-- next, the Upgrade is a move.)
abbrev pub IsNotStuck : Shown → Type 0
IsNotStuck s =
    (now : ℕ) → s.moment ≤ now → now ≤ last_moment → outcome s.lists ≡ None → enabled_move s now ≡ None
    → IsSome (due s) ⊎ IsSome (asks s)
