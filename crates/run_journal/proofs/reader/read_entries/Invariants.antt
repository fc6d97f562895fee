use Rattle.std.proofs.Common.{length}
use Rattle.run_journal.specs.Image.{bytes_of, ArePlaced}
use Rattle.run_journal.specs.Layout.{Entries}
use Rattle.run_journal.proofs.reader.read_entries.Given as goal

abbrev pub invariant-loop-item : goal.invariant-loop-item
invariant-loop-item l = record {
  so_far : Entries l.fn.bytes (bytes_of l.entries.items) l.rest;
  placed : ArePlaced l.entries.items;
}

abbrev pub decreases-loop-item : goal.decreases-loop-item
decreases-loop-item l = length l.rest
