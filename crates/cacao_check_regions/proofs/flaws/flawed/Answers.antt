use Rattle.std.proofs.Common.{◌↔◌, ℕ, refl, subst, arith, List, get_or, Contains}
use Rattle.std.proofs.lemmas.List.{take_all}
use Rattle.cacao_check_regions.specs.Flaws.{HasOwnFlaw}
use Rattle.cacao_check_regions.proofs.PlaceLemmas.{chosen_more}
use Rattle.cacao_check_regions.proofs.flaws.flawed.Goals as goal

pub loop-place-preserved : goal.loop-place-preserved
loop-place-preserved c =
    let i = c.loop-place.place-index in
    chosen_more (HasOwnFlaw c.args.book.now c.args.name.now c.args.flaw.now) c.args.places.now c.loop-place.these c.add_flawed.new.these i (get_or c.args.places.now i 0) c.loop-place-test.true refl c.loop-place.invariant c.in_ok-add_flawed.ensures

pub returns : goal.returns
returns c = subst (λ (v : List ℕ). (p : ℕ) → Contains c.loop-place.these p ↔ (Contains v p × HasOwnFlaw c.args.book.now c.args.name.now c.args.flaw.now p)) (take_all c.loop-place.place-index c.args.places.now (omega (arith, c.loop-place-test.false))) c.loop-place.invariant
