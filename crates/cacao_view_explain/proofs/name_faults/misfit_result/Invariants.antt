use Rattle.cacao_check_regions.specs.Memories.{Remembers}
use Rattle.cacao_view_explain.proofs.name_faults.misfit_result.Given as goal

abbrev pub invariant-loop-number : goal.invariant-loop-number
invariant-loop-number l = Remembers l.book l.memory
