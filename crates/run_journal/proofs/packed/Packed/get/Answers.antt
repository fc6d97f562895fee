-- The bytes between the end of the list before and its own.
use Rattle.std.proofs.Common.{◌-◌, List, ℕ, take, drop, ap, ◌∙◌, arith}
use Rattle.run_journal.specs.PackedView.{PackedView}
use Rattle.run_journal.proofs.PackedLemmas.{count_is, list_within, list_is}
use Rattle.run_journal.proofs.packed.Packed.get.Goals as goal

pub index-requires : goal.index-requires
index-requires c =
    omega (arith, c.requires, count_is c.self.inside.ends.items c.self.inside.bytes.items c.args.self.now.items (ap (λ (v : PackedView). v.items) c.self.view_is) c.self.invariant)

pub between-requires-clause-order : goal.between-requires-clause-order
between-requires-clause-order c =
    (list_within c.self.inside.ends.items c.self.inside.bytes.items c.args.self.now.items (ap (λ (v : PackedView). v.items) c.self.view_is) c.self.invariant
    c.args.n c.size-start.result c.index.result.now c.requires c.size-start.ensures c.index.ensures).0

pub between-requires-clause-within : goal.between-requires-clause-within
between-requires-clause-within c =
    let within = list_within c.self.inside.ends.items c.self.inside.bytes.items c.args.self.now.items (ap (λ (v : PackedView). v.items) c.self.view_is) c.self.invariant
    c.args.n c.size-start.result c.index.result.now c.requires c.size-start.ensures c.index.ensures in
    omega (arith, within.1, c.as_slice.ensures.len)

pub returns : goal.returns
returns c =
    c.between.ensures
    ∙ ap (λ (l : List ℕ). take (c.index.result.now - c.size-start.result) (drop c.size-start.result l)) c.as_slice.ensures.value
    ∙ list_is c.self.inside.ends.items c.self.inside.bytes.items c.args.self.now.items (ap (λ (v : PackedView). v.items) c.self.view_is) c.self.invariant
    c.args.n c.size-start.result c.index.result.now c.requires c.size-start.ensures c.index.ensures
