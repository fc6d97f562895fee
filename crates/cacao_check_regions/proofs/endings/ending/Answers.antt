use Rattle.std.proofs.Common.{◌↔◌, List, Contains, slice_get, subst}
use Rattle.std.specs.Prelude.{IsSomeAnd}
use Rattle.cacao_book.specs.declared.steps.Step.{Step}
use Rattle.cacao_check_regions.specs.Endings.{CanEnd}
use Rattle.cacao_check_regions.proofs.ChartLemmas.{marks_backward, same_onward}
use Rattle.cacao_check_regions.proofs.endings.ending.Goals as goal

pub returns : goal.returns
returns c =
    marks_backward c.args.book.now c.args.chart.now c.requires (Contains c.in_ok-first.first) (λ p. IsSomeAnd (slice_get c.args.book.now.steps p) CanEnd) c.in_ok-marks.marks
    (λ p. subst (λ (v : List Step). Contains c.in_ok-first.first p ↔ IsSomeAnd (slice_get v p) CanEnd) c.as_slice-steps.ensures.steps (c.in_ok-first.ensures.exact p))
    (same_onward _ _ _ _ c.in_ok-marks.marks c.as_slice.ensures c.deref.ensures.value c.in_ok-marks.ensures.exact)
