use Rattle.std.proofs.Common.{◌≡◌, ◌∙◌, ℕ, List, length, ap, sym, subst, arith, Contains}
use Rattle.std.proofs.lemmas.Bool.Decides.{Decides-eqb}
use Rattle.cacao_check_regions.specs.Charts.{AreMarksOf}
use Rattle.cacao_check_regions.proofs.SourceLemmas.{none_seen, found_seen}
use Rattle.cacao_check_regions.proofs.flaws.seen_marks.Goals as goal

pub returns-then-is_empty : goal.returns-then-is_empty
returns-then-is_empty c =
    let empty : length c.as_slice.result.now ≡ 0 = (Decides-eqb (length c.as_slice.result.now) 0).0 (sym c.is_empty.ensures ∙ c.if-is_empty.true) in
    none_seen c.args.book.now c.args.sources.now c.new.result c.new.ensures c.if-not-at_start.true (ap length (sym c.as_slice.ensures) ∙ empty)

pub returns : goal.returns
returns c =
    let same : length c.as_slice-count.result.now ≡ length c.args.book.now.steps = ap length c.as_slice-count.ensures.steps in
    found_seen c.args.book.now c.args.chart.now c.requires.chart c.args.sources.now _ c.in_ok-hiding.hiding c.in_ok-own.own c.in_ok-outside.outside c.in_ok-marks.marks (omega (arith, same))
    (subst (λ (v : List ℕ). AreMarksOf (Contains v) c.in_ok-hiding.hiding) c.as_slice-2.ensures c.in_ok-hiding.ensures)
    (subst (λ (v : List ℕ). AreMarksOf (Contains v) c.in_ok-own.own) c.as_slice-3.ensures c.in_ok-own.ensures)
    c.in_ok-outside.ensures c.in_ok-marks.ensures
