use Rattle.std.proofs.Common.{◌≡◌, ◌∙◌, ◌<◌, ◌+◌, refl, sym, ap, subst, arith, length, take, get_or, Contains, true}
use Rattle.std.proofs.lemmas.List.{length-set, take_all}
use Rattle.cacao_check_regions.specs.Charts.{AreMarksOf}
use Rattle.cacao_check_regions.proofs.PlaceLemmas.{marked_more}
use Rattle.cacao_check_regions.proofs.sights.marked.Goals as goal

pub loop-place-preserved : goal.loop-place-preserved
loop-place-preserved c =
    let i = c.loop-place.place-index in
    let place = get_or c.args.places.now i 0 in
    let same : length c.loop-place.marks ≡ c.args.count = c.loop-place.invariant.0 in
    let below : place < c.args.count = c.requires i 0 c.loop-place-test.true in
    let inside : place < length c.loop-place.marks = omega (arith, same, below) in (
      ap length c.mark.ensures ∙ length-set c.loop-place.marks place true ∙ same,
      subst (AreMarksOf (Contains (take (i + 1) c.args.places.now))) (sym c.mark.ensures) (marked_more c.loop-place.marks c.args.places.now i place c.loop-place-test.true refl inside c.loop-place.invariant.1),
    )

pub returns : goal.returns
returns c = subst (λ v. AreMarksOf (Contains v) c.loop-place.marks) (take_all c.loop-place.place-index c.args.places.now (omega (arith, c.loop-place-test.false))) c.loop-place.invariant.1
