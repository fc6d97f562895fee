use Rattle.std.proofs.Common.{◌≡◌, ℕ, length, map, take}
use Rattle.cacao_json.specs.Tree.{pair_data}
use Rattle.cacao_view_graph.specs.Pictures.{AreStepsMarked}
use Rattle.cacao_view_graph.specs.Placing.{AreDrawnOf, drawn_of}
use Rattle.cacao_view_graph.specs.Tallies.{AllTallied}
use Rattle.cacao_view_graph.proofs.placing.placed_steps.Given as goal

abbrev pub invariant-loop-place : goal.invariant-loop-place
invariant-loop-place l = record {
  count : length l.steps.items ≡ l.place;
  drawn : AreDrawnOf l.book (map pair_data (take l.place l.pairs)) (map drawn_of l.steps.items);
  marked : (number : ℕ) → AllTallied l.marks number (length l.pairs) l.tallies → AreStepsMarked l.marks number (map drawn_of l.steps.items);
}
