use Rattle.cacao_check_regions.proofs.ChartLemmas.{enclosed_reach}
use Rattle.cacao_check_regions.proofs.regions.may_enclose.Goals as goal

pub returns : goal.returns
returns c = λ place e. c.in_ok-marks.ensures place (enclosed_reach c.args.book.now c.args.chart.now c.requires place c.deref.result.now c.deref-2.result.now c.deref.ensures.value c.deref-2.ensures.value place e)
