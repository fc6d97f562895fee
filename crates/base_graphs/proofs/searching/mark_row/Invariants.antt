use Rattle.std.proofs.Common.{take}
use Rattle.base_graphs.specs.Searching.{IsOpenIn, Marks}
use Rattle.base_graphs.proofs.searching.mark_row.Given as goal

abbrev pub invariant-loop-place : goal.invariant-loop-place
invariant-loop-place l = Marks (IsOpenIn (take l.place-index l.row) l.blocked) l.initial.marks l.initial.work.items l.marks l.work.items
