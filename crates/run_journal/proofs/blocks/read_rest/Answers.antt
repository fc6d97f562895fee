-- The entries after the blocks so far, and after one more.
use Rattle.std.proofs.Common.{◌≡◌, ◌++◌, List, ℕ, subst, sym, arith, refl, length-append}
use Rattle.run_journal.specs.Layout.{Begins, front}
use Rattle.run_journal.proofs.BlockLemmas.{IsReadUpTo, reads_then, reads_most, first_block, more_blocks, whole_file}
use Rattle.run_journal.proofs.blocks.read_rest.Goals as goal

pub loop-block-init : goal.loop-block-init
loop-block-init g c =
    subst (λ (l : List (List ℕ)). IsReadUpTo c.args.file c.args.end 0 c.args.start.items (g.D.Disk.view c.args.disk.now) (g.D.Disk.view c.args.disk.now) l c.args.start.items c.args.end) (sym c.new-items.ensures)
    (first_block c.args.file c.args.end c.args.start.items (g.D.Disk.view c.args.disk.now) c.requires.long)

pub loop-block-preserved : goal.loop-block-preserved
loop-block-preserved g c =
    let was = c.loop-block.invariant in
    let image : List ℕ = front c.loop-block.items.items ++ c.loop-block.tail.items in
    let begins : Begins image c.take_entries.new.items.items c.take_entries.new.tail.items = c.in_ok-take_entries.ensures.begins image (record { short = was.short; is = refl }) in
    let room : c.make_room.new.tail.items ≡ c.take_entries.new.tail.items = c.make_room.ensures in
    let with_room : Begins image c.take_entries.new.items.items c.make_room.new.tail.items = subst (λ (l : List ℕ). Begins image c.take_entries.new.items.items l) (sym room) begins in
    let call = c.in_ok-ends.ensures in
    more_blocks c.args.file c.args.end c.loop-block.block c.args.start.items (g.D.Disk.view c.args.disk.now) (g.D.Disk.view c.loop-block.disk) (g.D.Disk.view c.read_block.new.disk)
    c.loop-block.items.items c.take_entries.new.items.items c.loop-block.tail.items c.make_room.new.tail.items c.read_block.new.tail.items _ c.loop-block.ends _
    was with_room (omega arith) call.only (call.steady (λ e. cc)) call.low call.long call.image

pub take_entries-requires : goal.take_entries-requires
take_entries-requires g c =
    let was = c.loop-block.invariant in
    omega (arith, length-append (front c.loop-block.items.items) c.loop-block.tail.items, was.long, was.high, c.requires.high)

pub returns-in_err-take_entries-clause-only : goal.returns-in_err-take_entries-clause-only
returns-in_err-take_entries-clause-only g c = reads_most (omega arith) c.loop-block.invariant.only

pub returns-in_err-make_room-clause-only : goal.returns-in_err-make_room-clause-only
returns-in_err-make_room-clause-only g c = reads_most (omega arith) c.loop-block.invariant.only

pub returns-in_err-ends-clause-only : goal.returns-in_err-ends-clause-only
returns-in_err-ends-clause-only g c = reads_most (omega arith) (reads_then c.loop-block.invariant.only c.read_block.ensures.only)

pub returns-then-ends-at-clause-only : goal.returns-then-ends-at-clause-only
returns-then-ends-at-clause-only g c = reads_most (omega arith) c.loop-block.invariant.only

pub returns-then-ends-at-clause-long : goal.returns-then-ends-at-clause-long
returns-then-ends-at-clause-long g c = omega (arith, c.loop-block.invariant.long, c.if-ends-at.true)

pub returns-then-ends-at-clause-image : goal.returns-then-ends-at-clause-image
returns-then-ends-at-clause-image g c = λ told size is.
    whole_file c.args.file c.args.end _ c.args.start.items (g.D.Disk.view c.args.disk.now) (g.D.Disk.view c.loop-block.disk) c.loop-block.items.items c.loop-block.tail.items c.loop-block.ends c.loop-block.invariant (omega (arith, c.if-ends-at.true)) told size is

pub returns-clause-only : goal.returns-clause-only
returns-clause-only g c = reads_most (omega arith) c.loop-block.invariant.only

pub returns-clause-long : goal.returns-clause-long
returns-clause-long g c = omega (arith, c.loop-block.invariant.long, c.loop-block.invariant.high)

pub returns-clause-image : goal.returns-clause-image
returns-clause-image g c = λ told size is.
    whole_file c.args.file c.args.end _ c.args.start.items (g.D.Disk.view c.args.disk.now) (g.D.Disk.view c.loop-block.disk) c.loop-block.items.items c.loop-block.tail.items c.loop-block.ends c.loop-block.invariant (omega (arith, c.loop-block.invariant.high)) told size is
