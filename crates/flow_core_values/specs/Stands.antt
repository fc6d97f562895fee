-- Scaffold: Where tasks of a run stand.
use Rattle.std.specs.Prelude.{◌≡◌, ◌<◌, length, Some, IfSome, slice_get}
use Rattle.flow_core_rules.specs.Givens.{step_at}
use Rattle.flow_core_values.specs.declared.run.Run.{Run}
use Rattle.flow_core_values.specs.declared.run.Stand.{Stand}

-- The task has this number, and stands at this step.
pub record Stands (r : Run) (stand : Stand) : Type 0 where
  pub task_is : slice_get r.tables.tasks.items stand.number ≡ Some stand.task
  pub step_is : step_at r.setup stand.task.book stand.task.step ≡ Some stand.step.now

-- the task stands at this step, and the scope of the step is there
pub record StandsThere (r : Run) (stand : Stand) : Type 0 where
  pub step_is : step_at r.setup stand.task.book stand.task.step ≡ Some stand.step.now
  pub scope_is : IfSome stand.task.step_scope (λ n. n < length r.tables.opened.scopes)
