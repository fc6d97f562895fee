use Rattle.std.proofs.Common.{ap, arith, length}
use Rattle.oc2_wire_site.specs.Entries.{puts_by, taken_by}
use Rattle.oc2_wire_site.specs.LinesOf.{lines_of, mark_of}
use Rattle.oc2_wire_site.proofs.KeptLines.{behind_taken, behind_put, sent_now, since_now}
use Rattle.oc2_wire_site.proofs.wire_site.WireSite.new.Goals as goal

pub invariant_of-result-clause-reads : goal.invariant_of-result-clause-reads
invariant_of-result-clause-reads g c =
    since_now c.args.asking (mark_of g.K.Link.view (record { lines = c.of.result; taken = 0; puts = 0 })) (lines_of g.K.Link.view c.new-lines.result) (taken_by g.S.Disk.view c.new-2.result.items) (ap (lines_of g.K.Link.view) c.of.ensures)
    (behind_taken g.S.Disk.view 0 c.new-2.result.items (omega (arith, ap length c.new-2.ensures.items)))

pub invariant_of-result-clause-sends : goal.invariant_of-result-clause-sends
invariant_of-result-clause-sends g c =
    sent_now c.args.asking (mark_of g.K.Link.view (record { lines = c.of.result; taken = 0; puts = 0 })) (lines_of g.K.Link.view c.new-lines.result) (puts_by g.S.Disk.view c.new.result.items) (ap (lines_of g.K.Link.view) c.of.ensures)
    (behind_put g.S.Disk.view 0 c.new.result.items (omega (arith, ap length c.new.ensures.items)))
