-- The entries so far, and one more.
use Rattle.std.proofs.Common.{arith}
use Rattle.run_journal.proofs.PackedLemmas.{joins_none, joins_more, joins_size, next_fits}
use Rattle.run_journal.proofs.taking.pack_entries.Goals as goal

pub loop-item-init : goal.loop-item-init
loop-item-init c = joins_none c.args.bytes.now c.args.items.now.items

pub push-requires : goal.push-requires
push-requires c =
    next_fits c.loop-item.items.items c.loop-item.rest.now c.in-Some.item.now c.in-Some.after.now (omega (arith, joins_size c.loop-item.invariant, c.requires)) c.in-Some.ensures.entry.1

pub loop-item-preserved : goal.loop-item-preserved
loop-item-preserved c =
    let entry = c.in-Some.ensures.entry in
    joins_more c.in-Some.item.now c.in-Some.after.now c.push.new.self.items c.loop-item.invariant entry.0 entry.1 c.in_ok-push.ensures
