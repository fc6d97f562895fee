use Rattle.std.proofs.Common.{◌≡◌, map, take}
use Rattle.cacao_json.specs.Tree.{data_of}
use Rattle.cacao_book_shape.specs.Members.{text_of}
use Rattle.cacao_book.specs.Books.{argument}
use Rattle.cacao_book.proofs.arguments.read_arguments.Given as goal

abbrev pub invariant-loop-item : goal.invariant-loop-item
invariant-loop-item l = l.names.items ≡ map (λ d. argument (text_of d)) (map data_of (take l.item-index l.item-items))
