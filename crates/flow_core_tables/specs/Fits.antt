-- Scaffold: Edits that the tables of a run can take: what they name is there, and what they change leaves each table as it is asked to be.
use Rattle.std.specs.Prelude.{◌≡◌, ◌≢◌, ◌⊎◌, ℕ, ◌<◌, ◌≤◌, true, false, List, [], ◌∷◌, length, Some, IfSome, slice_get, ⊤}
use Rattle.run_records.specs.Ranges.{last_moment}
use Rattle.flow_core_rules.specs.declared.tasks.Task.{Task}
use Rattle.flow_core_rules.specs.declared.issues.Issue.{Issue}
use Rattle.flow_core_rules.specs.declared.phases.Phase.{Phase}
use Rattle.flow_core_rules.specs.declared.phases.Phase.TheVariants as phase
use Rattle.flow_core_rules.specs.State.{Lists}
use Rattle.flow_core_rules.specs.Edits.{Edit, opens, writes, makes, moves, issues, closes, upgrades, shown_edited}
use Rattle.flow_core_rules.specs.Changes.{has_ended, is_waiting}

-- a task that stands before its step does so from a moment within the limit on
abbrev pub IsInTime : Phase → Type 0
IsInTime (phase.At since) = since ≤ last_moment
IsInTime other = ⊤

-- the task with this number joins, and waits for the one with number t
pub record JoinsFor (s : Lists) (t parent : ℕ) : Type 0 where
  pub by : Task
  pub from : ℕ
  pub by_is : slice_get s.tasks parent ≡ Some by
  pub joins : by.phase ≡ phase.Joining from
  pub from_is : from ≤ t
  pub earlier : parent < t

-- a new task stands before its step, and its parent waits for it
pub record IsNewTask (s : Lists) (task : Task) : Type 0 where
  pub since : ℕ
  pub phase_is : task.phase ≡ phase.At since
  pub in_time : since ≤ last_moment
  pub parent : IfSome task.parent (JoinsFor s (length s.tasks))

-- no issue of this task waits
abbrev pub NoneWaits : Lists → ℕ → Type 0
NoneWaits s t = (n : ℕ) (issue : Issue) → slice_get s.issues n ≡ Some issue → is_waiting issue.phase ≡ true → issue.task ≢ t

-- A task that goes on keeps its parent. One that ends has a parent that waits for it; one that joins waits for the tasks that are
-- made next. While an issue of it waits, it stays at its step.
pub record IsMove (s : Lists) (t : ℕ) (new : Task) : Type 0 where
  pub old : Task
  pub old_is : slice_get s.tasks t ≡ Some old
  pub going : has_ended old.phase ≡ false
  pub parent_is : new.parent ≡ old.parent
  pub in_time : IsInTime new.phase
  pub ended : has_ended new.phase ≡ true → IfSome new.parent (JoinsFor s t)
  pub joins : (from : ℕ) → new.phase ≡ phase.Joining from → from ≡ length s.tasks
  pub stays : ((new.book ≡ old.book) × (new.step ≡ old.step)) ⊎ NoneWaits s t

-- a new issue is one of a task that is there
pub record IsNewIssue (s : Lists) (issue : Issue) : Type 0 where
  pub task_is : issue.task < length s.tasks
  pub in_time : issue.moment ≤ last_moment

abbrev pub Fits : Lists → Edit → Type 0
Fits s (opens parent vars) = ⊤
Fits s (writes scope name text) = scope < length s.texts
Fits s (makes task) = IsNewTask s task
Fits s (moves t task) = IsMove s t task
Fits s (issues issue) = IsNewIssue s issue
Fits s (closes n end) = (n < length s.issues) × (is_waiting end ≡ false)
Fits s upgrades = ⊤

-- several, the first one first
abbrev pub AllFit : Lists → List Edit → Type 0
AllFit s [] = ⊤
AllFit s (e ∷ es) = Fits s e × AllFit (shown_edited e s) es
