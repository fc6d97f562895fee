use Rattle.run_journal.proofs.BlockLemmas.{IsReadUpTo}
use Rattle.run_journal.proofs.blocks.read_rest.Given as goal

abbrev pub invariant-loop-block : goal.invariant-loop-block
invariant-loop-block g l = IsReadUpTo l.file l.fn.end l.block l.fn.start.items (g.D.Disk.view l.fn.disk) (g.D.Disk.view l.disk) l.items.items l.tail.items l.ends
