use Rattle.std.proofs.Common.{◌≡◌, ◌≤◌, take}
use Rattle.std.specs.Prelude.{count_by}
use Rattle.flow_core_plans.specs.Planned.{edit_of}
use Rattle.flow_core.specs.Views.{is_makes}
use Rattle.flow_core.proofs.limits.tasks_made.Given as goal

abbrev pub invariant-loop-edit : goal.invariant-loop-edit
invariant-loop-edit l = (l.tasks ≡ count_by (λ edit. is_makes (edit_of edit)) (take l.edit-index l.plan)) × (l.tasks ≤ l.edit-index)
