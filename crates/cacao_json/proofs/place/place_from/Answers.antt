use Rattle.std.proofs.Common.{◌+◌, ◌-◌, ◌/◌, ◌<◌, length, nat_cmp, sym, ap, ◌∙◌, arith}
use Rattle.std.specs.Cmp.Lexicographic.{slice_cmp}
use Rattle.cacao_json.proofs.Places.{place_equal, before_more, behind_more}
use Rattle.cacao_json.proofs.place.place_from.Goals as goal

pub returns-in-Equal : goal.returns-in-Equal
returns-in-Equal c =
    let l = c.loop-low in
    let within : l.low + (l.high - l.low) / 2 < length c.args.pairs.now = omega (arith, l.invariant.0, l.invariant.1, c.loop-low-test.true) in
    place_equal c.args.pairs.now c.requires.sorted c.args.name.now (l.low + (l.high - l.low) / 2) c.index-pairs-middle.result within c.index-pairs-middle.is
    (ap (λ p. slice_cmp nat_cmp c.args.name.now p.name) c.index-pairs-middle.is ∙ ap (slice_cmp nat_cmp c.args.name.now) (sym c.text.ensures) ∙ sym c.cmp.ensures ∙ c.in-Equal.is)

pub loop-low-preserved-in-Less : goal.loop-low-preserved-in-Less
loop-low-preserved-in-Less c =
    let l = c.loop-low in
    let i = l.low + (l.high - l.low) / 2 in
    let within : l.low + (l.high - l.low) / 2 < length c.args.pairs.now = omega (arith, l.invariant.0, l.invariant.1, c.loop-low-test.true) in (
      omega arith,
      omega (arith, within),
      l.invariant.2,
      behind_more c.args.pairs.now c.requires.sorted c.args.name.now i c.index-pairs-middle.result within c.index-pairs-middle.is (ap (λ p. slice_cmp nat_cmp c.args.name.now p.name) c.index-pairs-middle.is ∙ ap (slice_cmp nat_cmp c.args.name.now) (sym c.text.ensures) ∙ sym c.cmp.ensures ∙ c.in-Less.is),
    )

pub loop-low-preserved : goal.loop-low-preserved
loop-low-preserved c =
    let l = c.loop-low in
    let i = l.low + (l.high - l.low) / 2 in
    let within : l.low + (l.high - l.low) / 2 < length c.args.pairs.now = omega (arith, l.invariant.0, l.invariant.1, c.loop-low-test.true) in (
      omega (arith, c.loop-low-test.true),
      l.invariant.1,
      before_more c.args.pairs.now c.requires.sorted c.args.name.now i c.index-pairs-middle.result within c.index-pairs-middle.is (ap (λ p. slice_cmp nat_cmp c.args.name.now p.name) c.index-pairs-middle.is ∙ ap (slice_cmp nat_cmp c.args.name.now) (sym c.text.ensures) ∙ sym c.cmp.ensures ∙ c.in-Greater.is),
      l.invariant.3,
    )
