use Rattle.std.proofs.Common.{sym, subst}
use Rattle.std.specs.Prelude.{All}
use Rattle.cacao_json.specs.Tree.{data_of}
use Rattle.cacao_book_shape.specs.Members.{TextFits}
use Rattle.cacao_book_shape.specs.Shape.{IsArgument}
use Rattle.cacao_book_shape.proofs.ListLemmas.{fits_at}
use Rattle.cacao_book.proofs.arguments.read_arguments.Goals as goal

pub read_name-requires : goal.read_name-requires
read_name-requires c =
    fits_at data_of (TextFits IsArgument) c.items_at-item-items.result.now c.loop-item.item-index c.item-item.result c.loop-item-test.true c.item-item.is
    (subst (All (TextFits IsArgument)) (sym c.items_at-item-items.ensures) c.requires)
