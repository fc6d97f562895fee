use Rattle.std.proofs.Common.{sym, subst, codes}
use Rattle.std.specs.Prelude.{All}
use Rattle.cacao_json.specs.Tree.{data_of}
use Rattle.cacao_book_shape.specs.Shape.{OnType, HasContent}
use Rattle.cacao_book_shape.proofs.ListLemmas.{fits_at}
use Rattle.cacao_book.proofs.contents.read_commands.Goals as goal

pub read_command-requires : goal.read_command-requires
read_command-requires c =
    fits_at data_of (λ d. OnType (codes "openc2-http") (HasContent d) d) c.items_at-item-items.result.now c.loop-item.item-index c.item-item.result c.loop-item-test.true c.item-item.is
    (subst (All (λ d. OnType (codes "openc2-http") (HasContent d) d)) (sym c.items_at-item-items.ensures) c.requires)
