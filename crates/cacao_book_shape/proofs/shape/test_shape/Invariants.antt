use Rattle.std.proofs.Common.{map}
use Rattle.cacao_json.specs.Tree.{pair_data}
use Rattle.cacao_book_shape.proofs.ShapeLemmas.{KeptTo}
use Rattle.cacao_book_shape.proofs.shape.test_shape.Given as goal

abbrev pub invariant-loop-pair : goal.invariant-loop-pair
invariant-loop-pair l = KeptTo (map pair_data l.pair-items) l.pair-index
