use Rattle.std.proofs.Common.{◌≡◌, List, length, Some, slice_get, refl, ap, subst, arith}
use Rattle.std.proofs.lemmas.Option.{slice_get_read}
use Rattle.cacao_vars.specs.declared.declarations.Var.{Var}
use Rattle.cacao_book.specs.declared.steps.Step.{Step}
use Rattle.cacao_check_regions.specs.Declarers.{AddsEach}
use Rattle.cacao_check_regions.proofs.DeclarerLemmas.{DeclarersBelow-none, DeclarersBelow-more, DeclarersBelow-all}
use Rattle.cacao_check_regions.proofs.declarers.declarers_of.Goals as goal

pub loop-place-init : goal.loop-place-init
loop-place-init c = DeclarersBelow-none c.args.book.now c.new-declarers.result c.new-declarers.ensures

pub loop-place-preserved : goal.loop-place-preserved
loop-place-preserved c =
    let i = c.loop-place.place in
    let here : slice_get c.args.book.now.steps i ≡ Some c.step-item.result = subst (λ (v : List Step). slice_get v i ≡ Some c.step-item.result) c.as_slice-step-items.ensures.steps (slice_get_read c.as_slice-step-items.result.now (length c.as_slice-step-items.result.now) i c.step-item.result refl c.loop-place-test.true c.step-item.is) in
    let adds : AddsEach c.loop-place.declarers c.add_all.new.self c.step-item.result.variables i = subst (λ (v : List Var). AddsEach c.loop-place.declarers c.add_all.new.self v i) c.as_slice.ensures.items c.in_ok-add_all.ensures in
    DeclarersBelow-more c.args.book.now i c.step-item.result c.loop-place.declarers c.add_all.new.self here c.loop-place.invariant adds

pub returns : goal.returns
returns c =
    let same : length c.as_slice-step-items.result.now ≡ length c.args.book.now.steps = ap length c.as_slice-step-items.ensures.steps in
    DeclarersBelow-all c.args.book.now c.loop-place.place c.loop-place.declarers (omega (arith, same, c.loop-place-test.false)) c.loop-place.invariant
