use Rattle.std.specs.Prelude.{◌-◌, ◌+◌}
use Rattle.oc2_wire_site.specs.WireOf.{wire_of}
use Rattle.oc2_wire.specs.FilterTurns.{GoesOnWith}
use Rattle.oc2_wire.specs.Turns.{HasTurns}
use Rattle.oc2_wire.proofs.filters_end.serve.Given as goal

abbrev pub invariant-loop-parcel : goal.invariant-loop-parcel
invariant-loop-parcel g l = record {
  going : GoesOnWith (wire_of g.S.Disk.view g.K.Link.view l.fn.wire) (wire_of g.S.Disk.view g.K.Link.view l.wire) l.filters l.tally;
  turns : HasTurns (wire_of g.S.Disk.view g.K.Link.view l.fn.wire) (wire_of g.S.Disk.view g.K.Link.view l.wire) l.tally.repeated l.filters;
}

abbrev pub decreases-loop-parcel : goal.decreases-loop-parcel
decreases-loop-parcel g l = 1_074_741_824 - (l.tally.acted + l.tally.repeated)
