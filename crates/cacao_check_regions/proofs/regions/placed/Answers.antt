use Rattle.std.proofs.Common.{◌≡◌, true, false, length, Contains, get_or, ◌∙◌, ap, arith}
use Rattle.std.proofs.lemmas.List.{get_or-replicate}
use Rattle.base_graphs.specs.Closure.{Closure}
use Rattle.cacao_check_steps.specs.Links.{GoesTo}
use Rattle.cacao_check_regions.specs.Charts.{AreMarksOf, BeginsChosen}
use Rattle.cacao_check_regions.proofs.ChartLemmas.{marks_onward, same_onward, placed_iff, begins_within}
use Rattle.cacao_check_regions.proofs.regions.placed.Goals as goal

pub returns : goal.returns
returns c p =
    let same : length c.as_slice-count.result.now ≡ length c.args.book.now.steps = ap length c.as_slice-count.ensures.steps in
    let found : AreMarksOf (Closure (BeginsChosen c.args.book.now c.in_ok-all.all true) (GoesTo c.args.book.now)) c.in_ok-marks.marks =
    marks_onward c.args.book.now c.args.chart.now c.requires (Contains c.in_ok-first.first) (BeginsChosen c.args.book.now c.in_ok-all.all true) c.in_ok-marks.marks c.in_ok-first.ensures.exact
    (same_onward _ _ _ _ c.in_ok-marks.marks c.as_slice.ensures c.deref.ensures.value c.in_ok-marks.ensures.exact) in
    let all = placed_iff c.args.book.now c.in_ok-all.all
    (λ control place b. ap (λ v. get_or v control false) c.in_ok-all.ensures ∙ get_or-replicate (length c.as_slice-count.result.now) control true false (let lt = begins_within c.args.book.now control place b in omega (arith, same))) p in
    (λ m. all.0 ((found p).0 m), λ h. (found p).1 (all.1 h))
