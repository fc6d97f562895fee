use Rattle.std.specs.Prelude.{map}
use Rattle.std.specs.List.{AllWithin}
use Rattle.cacao_json.specs.Tree.{pair_data}
use Rattle.cacao_vars.specs.Names.{IsName}
use Rattle.cacao_book_shape.specs.Shape.{IsDeclaration}
use Rattle.cacao_book_shape.proofs.dictionaries.each_declares.Given as goal

abbrev pub invariant-loop-pair : goal.invariant-loop-pair
invariant-loop-pair l = AllWithin (λ m. IsName m.0 × IsDeclaration m.1) (map pair_data l.members) 0 l.pair-index
