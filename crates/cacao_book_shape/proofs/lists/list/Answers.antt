use Rattle.std.proofs.Common.{map, sym, ap, ◌∙◌}
use Rattle.cacao_json.specs.Tree.{data_of}
use Rattle.cacao_book_shape.specs.Members.{items_in}
use Rattle.cacao_book_shape.proofs.ListLemmas.{items_in-items_of}
use Rattle.cacao_book_shape.proofs.lists.list.Goals as goal

pub returns : goal.returns
returns c = ap items_in (sym c.as_slice.ensures.value) ∙ items_in-items_of (map data_of c.as_slice.result.now)
