use Rattle.std.proofs.Common.{◌≡◌, map, take}
use Rattle.cacao_json.specs.Tree.{data_of}
use Rattle.cacao_book_shape.specs.Members.{text_of}
use Rattle.cacao_book.proofs.text_reading.read_texts.Given as goal

abbrev pub invariant-loop-item : goal.invariant-loop-item
invariant-loop-item l = l.texts.items ≡ map (λ d. text_of d) (map data_of (take l.item-index l.item-items))
