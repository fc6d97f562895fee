-- The call leaves each file alone, and gives the next block.
use Rattle.std.proofs.Common.{List, ℕ, take, refl, arith}
use Rattle.std.proofs.lemmas.Grind.{common_steps}
use Rattle.run_journal.proofs.BlockLemmas.{reads_once, next_block}
use Rattle.run_journal.proofs.blocks.read_block.Goals as goal

pub returns-in_err-extend_from_slice-in-Ok-clause-only : goal.returns-in_err-extend_from_slice-in-Ok-clause-only
returns-in_err-extend_from_slice-in-Ok-clause-only g c = reads_once c.read.ensures.call c.read.ensures.stays c.read.ensures.rest

pub returns-then-count-wanted-clause-only : goal.returns-then-count-wanted-clause-only
returns-then-count-wanted-clause-only g c = reads_once c.read.ensures.call c.read.ensures.stays c.read.ensures.rest

pub returns-else-count-wanted-clause-only : goal.returns-else-count-wanted-clause-only
returns-else-count-wanted-clause-only g c = reads_once c.read.ensures.call c.read.ensures.stays c.read.ensures.rest

pub returns-in-Err-clause-only : goal.returns-in-Err-clause-only
returns-in-Err-clause-only g c = reads_once c.read.ensures.call c.read.ensures.stays c.read.ensures.rest

pub returns-else-count-wanted-clause-image : goal.returns-else-count-wanted-clause-image
returns-else-count-wanted-clause-image g c = λ told size.
    let reads : List ℕ = (g.D.Disk.view c.args.disk.now).disk.reads c.args.file in
    let bytes = c.in-Ok.ensures.bytes told in
    let items = c.in_ok-extend_from_slice-in-Ok.ensures.items in (
      refl,
      λ before first.
          next_block reads before c.args.tail.now.items (take c.in-Ok.count c.read.new.into) c.extend_from_slice.new.self.items c.args.at c.min-wanted.result c.args.end size c.requires.low (omega arith)
          (grind (arith, common_steps, bytes)) (grind (arith, common_steps, items)) first,
    )
