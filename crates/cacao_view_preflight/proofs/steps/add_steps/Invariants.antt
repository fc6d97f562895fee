use Rattle.std.proofs.Common.{◌≡◌, ◌++◌, drop}
use Rattle.std.specs.Prelude.{false, not, slice_index_or}
use Rattle.cacao_view_preflight.specs.Warnings.{each, step_line, warn_if}
use Rattle.cacao_view_preflight.proofs.steps.add_steps.Given as goal

abbrev pub invariant-loop-place : goal.invariant-loop-place
invariant-loop-place l =
    l.lines ++ each (λ place step. warn_if (not (slice_index_or l.reached place false)) (step_line l.n step.key)) l.place (drop l.place l.steps)
    ≡ l.fn.lines ++ each (λ place step. warn_if (not (slice_index_or l.reached place false)) (step_line l.n step.key)) 0 l.steps
