use Rattle.oc2_wire_site.specs.Entries.{empty_by, taken_by}
use Rattle.oc2_wire_site.specs.LinesOf.{lines_of, mark_of}
use Rattle.oc2_wire_site.specs.Marks.{marked_site}
use Rattle.oc2_wire_site.proofs.PutLemmas.{in_time_by_end, line_by_end, puts_by_end}
use Rattle.oc2_wire_site.proofs.PutSince.{more_puts, reads_by_end, sent_by_end}
use Rattle.oc2_wire_site.proofs.wire_calls.WireSiteSite.put.Goals as goal

pub returns-clause-puts : goal.returns-clause-puts
returns-clause-puts g c =
    puts_by_end (λ s. marked_site c.args.self.now.asking (mark_of g.K.Link.view c.args.self.now.mark) (g.S.Disk.view s)) c.args.self.now.site (record { at = c.of-at.result; parcel = c.args.parcel }) c.of-at.ensures
    c.args.self.now.puts.items c.put-went.new.puts.items (taken_by g.S.Disk.view c.args.self.now.taken.items) (empty_by g.S.Disk.view c.args.self.now.empty.items)
    c.args.self.now.mishaps c.mishaps_after-self.result (lines_of g.K.Link.view c.args.self.now.lines) (lines_of g.K.Link.view c.put-went.new.self) c.put-went.result c.put-went.ensures c.mishaps_after-self.ensures.fits c.mishaps_after-self.ensures.counted

pub returns-clause-line : goal.returns-clause-line
returns-clause-line g c =
    line_by_end (λ s. marked_site c.args.self.now.asking (mark_of g.K.Link.view c.args.self.now.mark) (g.S.Disk.view s)) c.args.self.now.site (record { at = c.of-at.result; parcel = c.args.parcel }) c.of-at.ensures
    c.args.self.now.puts.items c.put-went.new.puts.items (taken_by g.S.Disk.view c.args.self.now.taken.items) (empty_by g.S.Disk.view c.args.self.now.empty.items)
    c.args.self.now.mishaps c.mishaps_after-self.result (lines_of g.K.Link.view c.args.self.now.lines) (lines_of g.K.Link.view c.put-went.new.self) c.args.self.now.asking (mark_of g.K.Link.view c.args.self.now.mark)
    c.put-went.result c.put-went.ensures c.mishaps_after-self.ensures.counted

pub invariant_of-self : goal.invariant_of-self
invariant_of-self g c = record {
  puts_in_time = in_time_by_end g.S.Disk.view c.args.self.now.site (record { at = c.of-at.result; parcel = c.args.parcel }) c.of-at.ensures c.args.self.now.puts.items c.put-went.new.puts.items (lines_of g.K.Link.view c.args.self.now.lines) (lines_of g.K.Link.view c.put-went.new.self) c.put-went.result c.put-went.ensures c.args.self.now.puts_in_time;
  taken_in_time = c.args.self.now.taken_in_time;
  taken_since = c.args.self.now.taken_since;
  put_since = more_puts g.S.Disk.view c.args.self.now.site (record { at = c.of-at.result; parcel = c.args.parcel }) c.of-at.ensures (mark_of g.K.Link.view c.args.self.now.mark)
      c.args.self.now.puts.items c.put-went.new.puts.items (lines_of g.K.Link.view c.args.self.now.lines) (lines_of g.K.Link.view c.put-went.new.self) c.put-went.result c.args.self.now.put_since c.put-went.ensures;
  reads = reads_by_end g.S.Disk.view c.args.self.now.site (record { at = c.of-at.result; parcel = c.args.parcel }) c.of-at.ensures (mark_of g.K.Link.view c.args.self.now.mark) c.args.self.now.asking (taken_by g.S.Disk.view c.args.self.now.taken.items)
      c.args.self.now.puts.items c.put-went.new.puts.items (lines_of g.K.Link.view c.args.self.now.lines) (lines_of g.K.Link.view c.put-went.new.self) c.put-went.result c.put-went.ensures c.args.self.now.reads;
  sends = sent_by_end g.S.Disk.view c.args.self.now.site (record { at = c.of-at.result; parcel = c.args.parcel }) c.of-at.ensures (mark_of g.K.Link.view c.args.self.now.mark) c.args.self.now.asking
      c.args.self.now.puts.items c.put-went.new.puts.items (lines_of g.K.Link.view c.args.self.now.lines) (lines_of g.K.Link.view c.put-went.new.self) c.put-went.result c.args.self.now.put_since c.put-went.ensures c.args.self.now.sends;
}
