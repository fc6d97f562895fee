use Rattle.std.proofs.Common.{◌++◌, ℕ, List}
use Rattle.std.specs.Prelude.{false, not, slice_index_or}
use Rattle.cacao_book.specs.declared.steps.Step.{Step}
use Rattle.cacao_view_preflight.specs.Warnings.{Text, each, step_line, warn_if}
use Rattle.cacao_view_preflight.proofs.EachLemmas.{each_all, each_next}
use Rattle.cacao_view_preflight.proofs.steps.add_steps.Goals as goal

pub loop-place-preserved : goal.loop-place-preserved
loop-place-preserved c =
    let make : ℕ → Step → List Text = λ place step. warn_if (not (slice_index_or c.args.reached.now place false)) (step_line c.args.n step.key) in
    each_next make c.args.steps.now c.loop-place.place c.index-steps-place.result c.loop-place.lines c.add_step.new.lines (c.args.lines.now ++ each make 0 c.args.steps.now)
    c.loop-place-test.true c.index-steps-place.is c.in_ok-add_step.ensures c.loop-place.invariant

pub returns : goal.returns
returns c =
    let make : ℕ → Step → List Text = λ place step. warn_if (not (slice_index_or c.args.reached.now place false)) (step_line c.args.n step.key) in
    each_all make c.args.steps.now c.loop-place.place c.loop-place.lines (c.args.lines.now ++ each make 0 c.args.steps.now) c.loop-place-test.false c.loop-place.invariant
