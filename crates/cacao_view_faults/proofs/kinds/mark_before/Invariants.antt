use Rattle.std.proofs.Common.{◌≡◌}
use Rattle.cacao_view_faults.specs.Kinds.{mark_before}
use Rattle.cacao_view_faults.proofs.kinds.mark_before.Given as goal

abbrev pub invariant-loop-n : goal.invariant-loop-n
invariant-loop-n l = l.last ≡ mark_before l.bytes l.n
