use Rattle.std.specs.Prelude.{map}
use Rattle.std.specs.List.{AllWithin}
use Rattle.cacao_json.specs.Tree.{pair_data}
use Rattle.cacao_ids.specs.Ids.{IsId}
use Rattle.cacao_book_shape.specs.Members.{IsObject}
use Rattle.cacao_book_shape.proofs.book_rules.are_steps.Given as goal

abbrev pub invariant-loop-pair : goal.invariant-loop-pair
invariant-loop-pair l = AllWithin (λ m. IsId m.0 × IsObject m.1) (map pair_data l.members) 0 l.pair-index
