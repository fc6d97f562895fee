use Rattle.std.proofs.Common.{take}
use Rattle.base_graphs.specs.Reversing.{AddsEdges}
use Rattle.base_graphs.proofs.reversing.add_edges.Given as goal

abbrev pub invariant-loop-place : goal.invariant-loop-place
invariant-loop-place l = AddsEdges l.from (take l.place-index l.places) l.initial.back.items l.back.items
