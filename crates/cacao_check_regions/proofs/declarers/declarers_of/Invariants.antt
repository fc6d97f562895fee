use Rattle.cacao_check_regions.proofs.DeclarerLemmas.{DeclarersBelow}
use Rattle.cacao_check_regions.proofs.declarers.declarers_of.Given as goal

abbrev pub invariant-loop-place : goal.invariant-loop-place
invariant-loop-place l = DeclarersBelow l.book l.place l.declarers
