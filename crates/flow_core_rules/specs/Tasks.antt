-- Promise: How a task goes on: `go`, `fail`, `finish`.
use Rattle.std.specs.Prelude.{ℕ, ◌&&◌, Bool, true, false, not, List, Option, Some, None, option_map, option_and_then, slice_get, if◌then◌else◌}
use Rattle.std.specs.Option.{option_map_or, option_or}
use Rattle.cacao_book.specs.declared.steps.Step.{Step}
use Rattle.cacao_book.specs.declared.step_kinds.StepKind.{StepKind}
use Rattle.cacao_book.specs.declared.step_kinds.StepKind.TheVariants as does
use Rattle.flow_core_rules.specs.declared.tasks.Task.{Task}
use Rattle.flow_core_rules.specs.declared.phases.Phase.{Phase}
use Rattle.flow_core_rules.specs.declared.phases.Phase.TheVariants as phase
use Rattle.flow_core_rules.specs.Givens.{Given, book_at, step_at, number_of_step}
use Rattle.flow_core_rules.specs.State.{Shown}

-- Where a rule is used: what is shown, the record's moment, and a task, its number and the step at which it stands.
pub record Here : Type 0 where
  pub seen : Shown
  pub now : ℕ
  pub number : ℕ
  pub task : Task
  pub step : Step

-- the task with this number, if it stands at a step
abbrev pub here_at : Shown → ℕ → ℕ → Option Here
here_at s now t =
    option_and_then
    (λ (task : Task). option_map (λ (step : Step). record { seen = s; now = now; number = t; task = task; step = step })
    (step_at s.given task.book task.step))
    (slice_get s.lists.tasks t)

abbrev pub in_phase : Task → Phase → Task
in_phase task new = record task { phase = new }

-- `go`: the task stands before the step with this key of its playbook from now on, without a step scope.
abbrev pub go : Given → ℕ → Task → List ℕ → Task
go given now task key =
    record task { step = number_of_step given task.book key; step_scope = None; phase = phase.At now }

abbrev pub is_call : StepKind → Bool
is_call (does.PlaybookAction playbook version in_args out_args) = true
is_call other = false

-- whether the task with this number stands at a playbook-action
abbrev pub stands_at_call : Shown → ℕ → Bool
stands_at_call s t =
    option_map_or
    (λ (task : Task). option_map_or (λ (step : Step). is_call step.kind) (step_at s.given task.book task.step) false)
    (slice_get s.lists.tasks t) false

-- The root of a playbook's run: the first task, and the child of a playbook-action. While a child goes on, its parent waits for
-- it at the step that made it, so the parent's present step tells.
abbrev pub is_root : Shown → Task → Bool
is_root s task = option_map_or (stands_at_call s) task.parent true

-- the step to which a failed root goes: that of its playbook's `workflow_exception`, which it takes once
abbrev pub exception_of : Shown → Task → Option (List ℕ)
exception_of s task =
    if is_root s task && not task.excepted then option_and_then (λ book. book.exception) (book_at s.given task.book) else None

-- `fail`: a root goes to its playbook's `workflow_exception`, if there is one and it hasn't taken it yet; else the task ends
-- failed.
abbrev pub fail : Shown → ℕ → Task → Task
fail s now task =
    option_map_or (λ key. record (go s.given now task key) { excepted = true }) (exception_of s task)
    (in_phase task (phase.Ended false))

-- the step to which a step that is done leads
abbrev pub next_key : Step → Bool → Option (List ℕ)
next_key step well = option_or step.completion (if well then step.success else step.failure)

-- `finish`: the task goes to `on_completion`, else after success to `on_success` and after failure to `on_failure`; without
-- such a link it ends well after success, and fails after failure.
abbrev pub finish : Here → Bool → Task
finish h well =
    option_map_or (go h.seen.given h.now h.task) (next_key h.step well)
    (if well then in_phase h.task (phase.Ended true) else fail h.seen h.now h.task)

-- the task that this one makes: before the step with this key of a playbook, in a scope
abbrev pub child : Here → ℕ → ℕ → List ℕ → Task
child h book scope key = record {
  parent = Some h.number;
  book = book;
  step = number_of_step h.seen.given book key;
  scope = scope;
  step_scope = None;
  phase = phase.At h.now;
  excepted = false;
}
