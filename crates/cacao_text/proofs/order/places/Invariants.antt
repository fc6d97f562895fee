use Rattle.cacao_text.proofs.Keyed.{IsPlaced}
use Rattle.cacao_text.proofs.order.places.Given as goal

abbrev pub invariant-loop-place : goal.invariant-loop-place
invariant-loop-place l = IsPlaced l.unsigned l.pairs l.place l.order.entries
