use Rattle.std.proofs.Common.{◌≡◌, [], replicate}
use Rattle.base_graphs.proofs.reversing.no_edges.Given as goal

abbrev pub invariant-loop : goal.invariant-loop
invariant-loop l = l.rows.items ≡ replicate l.counter []
