use Rattle.std.specs.Prelude.{map}
use Rattle.std.specs.List.{AllWithin}
use Rattle.cacao_json.specs.Tree.{data_of}
use Rattle.std.specs.Prelude.{codes}
use Rattle.cacao_book_shape.specs.Members.{Has, IsText}
use Rattle.cacao_book_shape.proofs.contents.have_types.Given as goal

abbrev pub invariant-loop-item : goal.invariant-loop-item
invariant-loop-item l = AllWithin (Has (codes "type") IsText) (map data_of l.items) 0 l.item-index
