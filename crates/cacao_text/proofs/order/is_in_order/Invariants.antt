use Rattle.std.proofs.Common.{drop}
use Rattle.cacao_text.proofs.Rising.{AreAscii, names}
use Rattle.cacao_text.proofs.order.is_in_order.Given as goal

abbrev pub invariant-loop-pair : goal.invariant-loop-pair
invariant-loop-pair l = AreAscii (names (drop l.pair-index l.pairs)) → AreAscii (names l.pairs)
