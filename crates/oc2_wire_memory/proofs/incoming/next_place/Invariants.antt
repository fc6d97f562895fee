use Rattle.std.proofs.Common.{◌≡◌, ◌≤◌, ◌-◌, length}
use Rattle.oc2_wire_memory.specs.Pieces.{count_before, piece_at}
use Rattle.oc2_wire_memory.proofs.incoming.next_place.Given as goal

abbrev pub invariant-loop-at : goal.invariant-loop-at
invariant-loop-at l = record {
  number : l.at ≤ length l.pieces;
  place : l.from ≤ length (piece_at l.pieces l.at);
  count : count_before l.pieces l.at l.from ≡ count_before l.pieces l.number l.place;
}

abbrev pub decreases-loop-at : goal.decreases-loop-at
decreases-loop-at l = length l.pieces - l.at
