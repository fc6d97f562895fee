use Rattle.std.proofs.Common.{◌≡◌, [], length, take}
use Rattle.cacao_view_graph.specs.Tallies.{AreTallies}
use Rattle.cacao_view_graph.proofs.tally.count_walks.Given as goal

abbrev pub invariant-loop-place : goal.invariant-loop-place
invariant-loop-place l = record {
  count : length l.tallies ≡ length l.fn.tallies;
  each : AreTallies l.book (take l.place l.walked) [] l.tallies;
}
