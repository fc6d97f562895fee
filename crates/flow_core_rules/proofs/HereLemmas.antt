-- Where a task stands, and an issue that waits: what is known of them.
use Rattle.std.proofs.Common.{◌≡◌, ℕ, Bool, true, false, cond, Option, Some, None, refl}
use Rattle.std.specs.Prelude.{IfSome, option_and_then, option_map, slice_get}
use Rattle.cacao_book.specs.declared.steps.Step.{Step}
use Rattle.flow_core_rules.specs.declared.tasks.Task.{Task}
use Rattle.flow_core_rules.specs.declared.issues.Issue.{Issue}
use Rattle.flow_core_rules.specs.Givens.{step_at}
use Rattle.flow_core_rules.specs.State.{Shown}
use Rattle.flow_core_rules.specs.Tasks.{Here, here_at}
use Rattle.flow_core_rules.specs.Changes.{Waiting, waiting_at, awaited_place, is_waiting}

abbrev pub here_of : Shown → ℕ → ℕ → Task → Step → Here
here_of s now t task step = record { seen = s; now = now; number = t; task = task; step = step }

pub some_at : {B : Type 0} (s : Shown) (now t : ℕ) (f : Here → Option B) (P : B → Type 0)
    → ((task : Task) (step : Step) → slice_get s.lists.tasks t ≡ Some task → step_at s.given task.book task.step ≡ Some step → IfSome (f (here_of s now t task step)) P)
    → IfSome (option_and_then f (here_at s now t)) P
some_at s now t f P g = by (slice_get s.lists.tasks t) refl
  where
    at : (task : Task) → slice_get s.lists.tasks t ≡ Some task → (o : Option Step) → step_at s.given task.book task.step ≡ o → IfSome (option_and_then f (option_map (here_of s now t task) o)) P
    at task is None e = tt
    at task is (Some step) e = g task step is e

    by : (o : Option Task) → slice_get s.lists.tasks t ≡ o → IfSome (option_and_then f (option_and_then (λ (task : Task). option_map (here_of s now t task) (step_at s.given task.book task.step)) o)) P
    by None e = tt
    by (Some task) e = at task e (step_at s.given task.book task.step) refl

-- what is known of an issue that waits
pub record IsWaitingAt (s : Shown) (now n : ℕ) (w : Waiting) : Type 0 where
  pub task : Task
  pub step : Step
  pub issue_is : slice_get s.lists.issues n ≡ Some w.issue
  pub waits : is_waiting (w.issue).phase ≡ true
  pub task_is : slice_get s.lists.tasks (w.issue).task ≡ Some task
  pub step_is : step_at s.given task.book task.step ≡ Some step
  pub here_is : w.here ≡ here_of s now (w.issue).task task step
  pub place_is : awaited_place n task.phase ≡ Some w.place
  pub scope_is : task.step_scope ≡ Some w.scope

pub some_option : {A B : Type 0} (o : Option A) (f : A → Option B) (P : B → Type 0) → ((x : A) → o ≡ Some x → IfSome (f x) P) → IfSome (option_and_then f o) P
some_option None f P g = tt
some_option (Some x) f P g = g x refl

pub some_true : {B : Type 0} (b : Bool) (x : B) (P : B → Type 0) → (b ≡ true → P x) → IfSome (cond b (Some x) None) P
some_true true x P g = g refl
some_true false x P g = tt

pub waiting_known : (s : Shown) (now n : ℕ) → IfSome (waiting_at s now n) (IsWaitingAt s now n)
waiting_known s now n =
    some_option (slice_get s.lists.issues n) (λ (issue : Issue). option_and_then (at_here issue) (here_at s now issue.task)) (IsWaitingAt s now n) (λ issue issue_is.
    some_at s now issue.task (at_here issue) (IsWaitingAt s now n) (λ task step task_is step_is.
    let h : Here = here_of s now issue.task task step in
    some_option (awaited_place n task.phase) (λ (place : ℕ). option_and_then (at_scope issue h place) task.step_scope) (IsWaitingAt s now n) (λ place place_is.
    some_option task.step_scope (at_scope issue h place) (IsWaitingAt s now n) (λ scope scope_is.
    some_true (is_waiting issue.phase) (record { issue = issue; here = h; place = place; scope = scope }) (IsWaitingAt s now n) (λ waits. record {
      task = task;
      step = step;
      issue_is = issue_is;
      waits = waits;
      task_is = task_is;
      step_is = step_is;
      here_is = refl;
      place_is = place_is;
      scope_is = scope_is;
    })))))
  where
    at_scope : Issue → Here → ℕ → ℕ → Option Waiting
    at_scope issue h place scope = cond (is_waiting issue.phase) (Some (record { issue = issue; here = h; place = place; scope = scope })) None

    at_here : Issue → Here → Option Waiting
    at_here issue h = option_and_then (λ (place : ℕ). option_and_then (at_scope issue h place) h.task.step_scope) (awaited_place n h.task.phase)
