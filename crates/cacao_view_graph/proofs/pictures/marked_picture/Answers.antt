use Rattle.std.proofs.Common.{List, map, subst, sym}
use Rattle.cacao_view_graph.specs.Pictures.{AreMarked}
use Rattle.cacao_view_graph.specs.Placing.{drawn_book}
use Rattle.cacao_view_graph.specs.declared.placed_book.PlacedBook.{PlacedBook}
use Rattle.cacao_view_graph.proofs.pictures.marked_picture.Goals as goal

pub pictured-requires-clause-marked : goal.pictured-requires-clause-marked
pictured-requires-clause-marked c =
    subst (λ (l : List PlacedBook). AreMarked c.args.marks.now (map drawn_book l)) (sym c.as_slice-5.ensures.value) c.in_ok-placed.ensures.marked
