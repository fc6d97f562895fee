use Rattle.std.proofs.Common.{ap, arith}
use Rattle.run_journal.specs.PackedView.{PackedView}
use Rattle.run_journal.proofs.PackedLemmas.{count_is}
use Rattle.run_journal.proofs.packed.Packed.len.Goals as goal

pub returns : goal.returns
returns c = omega (arith, c.len.ensures, count_is c.self.inside.ends.items c.self.inside.bytes.items c.args.self.now.items (ap (λ (v : PackedView). v.items) c.self.view_is) c.self.invariant)
