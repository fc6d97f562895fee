use Rattle.std.proofs.Common.{◌≡◌, ◌+◌, ◌-◌, ◌<◌, length, nat_cmp, sym, ap, subst, ◌∙◌, arith}
use Rattle.std.specs.Cmp.Lexicographic.{slice_cmp}
use Rattle.cacao_json.specs.Places.{AreBefore}
use Rattle.cacao_json.proofs.Places.{before_more}
use Rattle.cacao_json.proofs.place.is_behind.Goals as goal

pub returns-in-Greater : goal.returns-in-Greater
returns-in-Greater c =
    let ps = c.args.pairs.now in
    let n = c.args.count in
    let within : n - 1 < length ps = omega (arith, c.if-count-eq0.false, c.requires.within) in
    let same : n - 1 + 1 ≡ n = omega (arith, c.if-count-eq0.false) in
    subst (AreBefore c.args.name.now ps) same
    (before_more ps c.requires.sorted c.args.name.now (n - 1) c.index-pairs-last.result within c.index-pairs-last.is
    (ap (λ p. slice_cmp nat_cmp c.args.name.now p.name) c.index-pairs-last.is ∙ ap (slice_cmp nat_cmp c.args.name.now) (sym c.text.ensures) ∙ sym c.cmp.ensures ∙ c.in-Greater.is))
