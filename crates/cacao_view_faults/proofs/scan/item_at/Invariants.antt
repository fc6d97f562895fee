use Rattle.std.proofs.Common.{◌≤◌, length}
use Rattle.cacao_view_faults.proofs.scan.item_at.Given as goal

abbrev pub invariant-loop : goal.invariant-loop
invariant-loop l = l.at ≤ length l.bytes
