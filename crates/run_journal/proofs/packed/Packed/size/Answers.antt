-- The list before ends there.
use Rattle.std.proofs.Common.{ap, arith}
use Rattle.run_journal.specs.PackedView.{PackedView}
use Rattle.run_journal.proofs.PackedLemmas.{count_is, size_before}
use Rattle.run_journal.proofs.packed.Packed.size.Goals as goal

pub index-requires : goal.index-requires
index-requires c =
    omega (arith, c.requires, c.if-n-eq0.false, count_is c.self.inside.ends.items c.self.inside.bytes.items c.args.self.now.items (ap (λ (v : PackedView). v.items) c.self.view_is) c.self.invariant)

pub returns : goal.returns
returns c =
    size_before c.self.inside.ends.items c.self.inside.bytes.items c.args.self.now.items (ap (λ (v : PackedView). v.items) c.self.view_is) c.self.invariant
    c.args.n c.index.result.now c.requires (omega (arith, c.if-n-eq0.false)) c.index.ensures
