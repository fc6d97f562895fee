use Rattle.std.proofs.Common.{refl, Contains}
use Rattle.cacao_check_regions.specs.Charts.{BeginsChosen}
use Rattle.cacao_check_regions.proofs.ChartLemmas.{marks_past}
use Rattle.cacao_check_regions.proofs.TableLemmas.{same_search}
use Rattle.cacao_check_regions.proofs.sights.sights.Goals as goal

pub returns : goal.returns
returns c =
    marks_past c.args.book.now c.args.chart.now c.requires (Contains c.in_ok-first.first) (BeginsChosen c.args.book.now c.args.chosen.now c.args.at_start) c.args.declaring.now c.in_ok-marks.marks c.in_ok-first.ensures.exact
    (same_search _ _ _ _ _ _ _ _ _ _ c.in_ok-marks.marks c.as_slice.ensures c.deref.ensures.value c.deref-2.ensures.value refl c.new-none.ensures c.in_ok-marks.ensures.exact)
