-- Each entry has a gate of its own.
use Rattle.std.proofs.Common.{arith}
use Rattle.run_journal.proofs.Headers.{count-le}
use Rattle.run_journal.proofs.journal.Journal.count.Goals as goal

pub overflow_cast-result : goal.overflow_cast-result
overflow_cast-result c = omega (arith, count-le c.self.inside.items.items, c.self.invariant.gate, c.self.invariant.fits)
