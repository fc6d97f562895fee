use Rattle.cacao_check_regions.proofs.SightLemmas.{Gathers}
use Rattle.cacao_check_regions.proofs.sights.first_places.Given as goal

abbrev pub invariant-loop-control : goal.invariant-loop-control
invariant-loop-control l = Gathers l.chart.starts l.chart.heads.items l.chosen l.at_start l.control l.places
