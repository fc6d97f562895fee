use Rattle.base_graphs.proofs.NestLemmas.{AllFitBelow}
use Rattle.base_graphs.proofs.nesting.all_fit.Given as goal

abbrev pub invariant-loop-from : goal.invariant-loop-from
invariant-loop-from l = AllFitBelow l.from l.is_guarded l.found l.nests l.table
