use Rattle.std.proofs.Common.{◌≡◌, length}
use Rattle.base_graphs.proofs.BackLemmas.{IsReverseTo}
use Rattle.base_graphs.proofs.reversing.reversed.Given as goal

abbrev pub invariant-loop-from : goal.invariant-loop-from
invariant-loop-from l = (length l.back.items ≡ length l.rows) × IsReverseTo l.from l.rows l.back.items
