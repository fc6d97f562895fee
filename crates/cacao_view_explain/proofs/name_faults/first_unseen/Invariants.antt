use Rattle.cacao_check_regions.specs.Memories.{Remembers}
use Rattle.cacao_view_explain.proofs.name_faults.first_unseen.Given as goal

abbrev pub invariant-loop-name : goal.invariant-loop-name
invariant-loop-name l = Remembers l.book l.memory
