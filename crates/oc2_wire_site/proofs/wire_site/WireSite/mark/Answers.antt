use Rattle.std.proofs.Common.{ap, arith}
use Rattle.oc2_wire_site.specs.Entries.{puts_by, taken_by}
use Rattle.oc2_wire_site.specs.LinesOf.{lines_of, mark_of}
use Rattle.oc2_wire_site.proofs.KeptLines.{behind_taken, behind_put, sent_now, since_now}
use Rattle.oc2_wire_site.proofs.wire_site.WireSite.mark.Goals as goal

pub invariant_of-self-clause-reads : goal.invariant_of-self-clause-reads
invariant_of-self-clause-reads g c =
    since_now c.args.self.now.asking (mark_of g.K.Link.view (record { lines = c.of.result; taken = c.len.result; puts = c.len-2.result })) (lines_of g.K.Link.view c.args.self.now.lines) (taken_by g.S.Disk.view c.args.self.now.taken.items) (ap (lines_of g.K.Link.view) c.of.ensures)
    (behind_taken g.S.Disk.view c.len.result c.args.self.now.taken.items (omega (arith, c.len.ensures, c.args.self.now.taken.ok.0)))

pub invariant_of-self-clause-sends : goal.invariant_of-self-clause-sends
invariant_of-self-clause-sends g c =
    sent_now c.args.self.now.asking (mark_of g.K.Link.view (record { lines = c.of.result; taken = c.len.result; puts = c.len-2.result })) (lines_of g.K.Link.view c.args.self.now.lines) (puts_by g.S.Disk.view c.args.self.now.puts.items) (ap (lines_of g.K.Link.view) c.of.ensures)
    (behind_put g.S.Disk.view c.len-2.result c.args.self.now.puts.items (omega (arith, c.len-2.ensures, c.args.self.now.puts.ok.0)))
