use Rattle.std.proofs.Common.{◌≡◌, ◌↔◌, [], sym, ◌∙◌, arith}
use Rattle.std.proofs.lemmas.Bool.{false≢true}
use Rattle.base_graphs.specs.Tables.{IsMarked}
use Rattle.cacao_check_steps.specs.Links.{head_places}
use Rattle.cacao_check_regions.specs.Regions.{Encloses}
use Rattle.std.proofs.lemmas.List.{nil_from_length}
use Rattle.cacao_check_regions.proofs.ChartLemmas.{heads_read, enclosed_marks, without_enclosed}
use Rattle.cacao_check_regions.proofs.TableLemmas.{same_search}
use Rattle.cacao_check_regions.proofs.regions.encloses_itself.Goals as goal

pub returns-then-is_empty : goal.returns-then-is_empty
returns-then-is_empty c =
    let heads : c.as_slice-heads.result.now ≡ head_places c.args.book.now c.args.place = heads_read c.args.book.now c.args.chart.now c.requires.chart c.args.place c.index.result.now c.as_slice-heads.result.now c.requires.place c.index.ensures c.as_slice-heads.ensures in
    let none : c.as_slice-heads.result.now ≡ [] = nil_from_length c.as_slice-heads.result.now (grind (arith, c.if-is_empty.true, c.is_empty.ensures)) in
    (λ m. absurd (false≢true m), λ r. absurd (without_enclosed c.args.book.now c.args.place (sym heads ∙ none) r))

pub returns : goal.returns
returns c =
    let heads : c.as_slice-heads.result.now ≡ head_places c.args.book.now c.args.place = heads_read c.args.book.now c.args.chart.now c.requires.chart c.args.place c.index.result.now c.as_slice-heads.result.now c.requires.place c.index.ensures c.as_slice-heads.ensures in
    let exact : IsMarked c.in_ok-marks.marks c.args.place ↔ Encloses c.args.book.now c.args.place c.args.place =
    enclosed_marks c.args.book.now c.args.chart.now c.requires.chart c.args.place c.in_ok-marks.marks
    (same_search _ _ _ _ _ _ _ _ _ _ c.in_ok-marks.marks heads c.deref.ensures.value c.deref-2.ensures.value c.new-none.ensures c.new-none.ensures c.in_ok-marks.ensures.exact) c.args.place in
    (λ h. exact.0 (sym c.has.ensures ∙ h), λ e. c.has.ensures ∙ exact.1 e)
