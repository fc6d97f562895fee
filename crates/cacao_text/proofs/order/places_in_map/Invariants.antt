use Rattle.std.proofs.Common.{◌≡◌, ◌++◌}
use Rattle.cacao_text.specs.Keys.{places_in}
use Rattle.cacao_text.proofs.order.places_in_map.Given as goal

abbrev pub invariant-loop-key : goal.invariant-loop-key
invariant-loop-key l = l.list.items ++ places_in l.key-iterator ≡ places_in l.order.entries
