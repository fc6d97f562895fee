use Rattle.std.proofs.Common.{◌≡◌, ◌↔◌, ℕ, List, [], false, Contains, sym, ◌∙◌, ap, subst, get_or, arith}
use Rattle.std.proofs.lemmas.Bool.{false≢true}
use Rattle.base_graphs.specs.Tables.{row, IsMarked}
use Rattle.base_graphs.specs.Closure.{Closure}
use Rattle.cacao_check_steps.specs.Links.{head_places, Begins}
use Rattle.std.proofs.lemmas.List.{nil_from_length}
use Rattle.cacao_check_regions.proofs.ChartLemmas.{heads_read, marks_onward, without_region, same_members}
use Rattle.cacao_check_regions.proofs.regions.region_at.Goals as goal

pub returns-then-is_empty : goal.returns-then-is_empty
returns-then-is_empty c place =
    let heads : c.as_slice-heads.result.now ≡ head_places c.args.book.now c.args.control = heads_read c.args.book.now c.args.chart.now c.requires.chart c.args.control c.index.result.now c.as_slice-heads.result.now c.requires.control c.index.ensures c.as_slice-heads.ensures in
    let none : c.as_slice-heads.result.now ≡ [] = nil_from_length c.as_slice-heads.result.now (grind (arith, c.if-is_empty.true, c.is_empty.ensures)) in
    let unmarked : get_or c.new.result place false ≡ false = ap (λ v. get_or v place false) c.new.ensures in
    (λ m. absurd (false≢true (sym unmarked ∙ m)), λ r. absurd (without_region c.args.book.now c.args.control (sym heads ∙ none) r))

pub returns : goal.returns
returns c =
    let heads : c.as_slice-heads.result.now ≡ head_places c.args.book.now c.args.control = heads_read c.args.book.now c.args.chart.now c.requires.chart c.args.control c.index.result.now c.as_slice-heads.result.now c.requires.control c.index.ensures c.as_slice-heads.ensures in
    marks_onward c.args.book.now c.args.chart.now c.requires.chart (Contains c.as_slice-heads.result.now) (Begins c.args.book.now c.args.control) c.in_ok-marks.marks
    (same_members c.as_slice-heads.result.now (head_places c.args.book.now c.args.control) heads)
    (λ p. subst (λ (v : List (List ℕ)). IsMarked c.in_ok-marks.marks p ↔ Closure (Contains c.as_slice-heads.result.now) (λ from to. Contains (row v from) to) p) c.deref.ensures.value (c.in_ok-marks.ensures.exact p))
