use Rattle.std.specs.Prelude.{map}
use Rattle.std.specs.List.{AllWithin}
use Rattle.cacao_json.specs.Tree.{pair_data}
use Rattle.cacao_ids.specs.Ids.{IsId}
use Rattle.cacao_book_shape.proofs.dictionaries.are_named_by_ids.Given as goal

abbrev pub invariant-loop-pair : goal.invariant-loop-pair
invariant-loop-pair l = AllWithin (λ m. IsId m.0) (map pair_data l.members) 0 l.pair-index
