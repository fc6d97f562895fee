use Rattle.base_graphs.proofs.RankLemmas.{NeverFallsBelow}
use Rattle.base_graphs.proofs.returning.never_falls.Given as goal

abbrev pub invariant-loop-from : goal.invariant-loop-from
invariant-loop-from l = NeverFallsBelow l.from l.ranks l.table
