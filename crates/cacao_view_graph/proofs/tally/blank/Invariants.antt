use Rattle.std.proofs.Common.{◌≡◌, ℕ, [], length}
use Rattle.cacao_view_graph.specs.Tallies.{AreTallies}
use Rattle.cacao_view_graph.proofs.tally.blank.Given as goal

abbrev pub invariant-loop : goal.invariant-loop
invariant-loop l = record {
  count : length l.tallies.items ≡ l.counter;
  each : (book : ℕ) → AreTallies book [] [] l.tallies.items;
}
