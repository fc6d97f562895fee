use Rattle.std.proofs.Common.{◌≡◌, length, Some, slice_get, ap, refl, arith}
use Rattle.std.proofs.lemmas.Option.{slice_get_read}
use Rattle.cacao_check_steps.specs.Parts.{ReadsStep}
use Rattle.cacao_check_steps.proofs.PairLemmas.{Pairs-more}
use Rattle.cacao_check_steps.proofs.reading.read_steps.Goals as goal

pub loop-step-preserved : goal.loop-step-preserved
loop-step-preserved c =
    let i = c.loop-step.step-index in
    let here : slice_get c.args.book.now.steps i ≡ Some c.step-item.result = rw (← c.as_slice-step-items.ensures.steps) (slice_get_read c.as_slice-step-items.result.now (length c.as_slice-step-items.result.now) i c.step-item.result refl c.loop-step-test.true c.step-item.is) in
    Pairs-more (ReadsStep c.args.books.now c.args.book.now) c.args.book.now.steps c.loop-step.all.items _ c.step-item.result c.in_ok-parts.parts i c.in_ok-push.ensures.items c.loop-step.invariant.0 here c.in_ok-parts.ensures c.loop-step.invariant.1

pub returns : goal.returns
returns c =
    let same : length c.as_slice-step-items.result.now ≡ length c.args.book.now.steps = ap length c.as_slice-step-items.ensures.steps in
    record { len = (let e = c.loop-step.invariant.0 in omega arith); each = c.loop-step.invariant.1 }
