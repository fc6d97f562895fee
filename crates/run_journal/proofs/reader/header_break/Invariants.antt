use Rattle.std.proofs.Common.{◌≡◌, take}
use Rattle.run_journal.specs.Layout.{header}
use Rattle.run_journal.proofs.reader.header_break.Given as goal

abbrev pub invariant-loop-i : goal.invariant-loop-i
invariant-loop-i l = take l.i l.image ≡ take l.i header
