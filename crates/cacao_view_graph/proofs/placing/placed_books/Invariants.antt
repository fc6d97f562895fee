use Rattle.std.proofs.Common.{◌≡◌, length, map, take}
use Rattle.cacao_json.specs.Tree.{data_of}
use Rattle.cacao_view_graph.specs.Pictures.{AreDrawn, AreMarked}
use Rattle.cacao_view_graph.specs.Placing.{drawn_book}
use Rattle.cacao_view_graph.proofs.placing.placed_books.Given as goal

abbrev pub invariant-loop-n : goal.invariant-loop-n
invariant-loop-n l = record {
  count : length l.placed.items ≡ l.n;
  drawn : AreDrawn (map data_of (take l.n l.trees)) (map drawn_book l.placed.items);
  marked : AreMarked l.marks (map drawn_book l.placed.items);
}
