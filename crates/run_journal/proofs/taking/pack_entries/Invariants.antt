use Rattle.std.proofs.Common.{length}
use Rattle.run_journal.specs.Taking.{Joins}
use Rattle.run_journal.proofs.taking.pack_entries.Given as goal

abbrev pub invariant-loop-item : goal.invariant-loop-item
invariant-loop-item l = Joins l.fn.bytes l.fn.items.items l.items.items l.rest

abbrev pub decreases-loop-item : goal.decreases-loop-item
decreases-loop-item l = length l.rest
