use Rattle.cacao_check_regions.proofs.EndLemmas.{EndsBelow}
use Rattle.cacao_check_regions.proofs.endings.ends.Given as goal

abbrev pub invariant-loop-place : goal.invariant-loop-place
invariant-loop-place l = EndsBelow l.steps l.place l.places
