use Rattle.std.proofs.Common.{◌∙◌, ℕ, List, false, length, Option, Some, None, ap, arith, refl, subst, sym}
use Rattle.std.proofs.lemmas.List.{length_push}
use Rattle.cacao_site.specs.declared.parcel.Parcel.{Parcel}
use Rattle.oc2_wire_site.specs.Entries.{AreInTime, puts_by, taken_by}
use Rattle.oc2_wire_site.specs.LinesOf.{lines_of, mark_of}
use Rattle.oc2_wire_site.specs.WireOf.{wire_of}
use Rattle.oc2_wire_site.specs.Wires.{is_owed}
use Rattle.oc2_wire_site.specs.LineLinks.{TakesBy}
use Rattle.oc2_wire_site.proofs.KeptLines.{fits_taken, sent_by_take, since_none, since_some}
use Rattle.oc2_wire_site.proofs.PutLemmas.{in_time_push}
use Rattle.oc2_wire_site.proofs.TakeLemmas.{taken_more, takes_unmade}
use Rattle.oc2_wire_site.proofs.wire_calls.WireSiteSite.take.Goals as goal

pub returns-then-is_err-clause-line : goal.returns-then-is_err-clause-line
returns-then-is_err-clause-line g c = record {
  asking = refl;
  mark = refl;
  takes = takes_unmade c.args.self.now.asking (is_owed (wire_of g.S.Disk.view g.K.Link.view c.args.self.now)) (lines_of g.K.Link.view c.args.self.now.lines) (lines_of g.K.Link.view c.want_memory.new.self)
      (ap g.K.Link.view c.want_memory.ensures.link) c.want_memory.ensures.unread c.want_memory.ensures.passed c.want_memory.ensures.first c.want_memory.ensures.now;
}

pub invariant_of-self : goal.invariant_of-self
invariant_of-self g c =
    let same = ap (taken_by g.S.Disk.view) c.make_room.ensures.taken in
    let takes : TakesBy c.args.self.now.asking false None (lines_of g.K.Link.view c.args.self.now.lines) (lines_of g.K.Link.view c.want_memory.new.self) =
    takes_unmade c.args.self.now.asking false (lines_of g.K.Link.view c.args.self.now.lines) (lines_of g.K.Link.view c.want_memory.new.self) (ap g.K.Link.view c.want_memory.ensures.link) c.want_memory.ensures.unread c.want_memory.ensures.passed c.want_memory.ensures.first c.want_memory.ensures.now in
    record {
      puts_in_time = c.args.self.now.puts_in_time;
      taken_in_time = subst (λ (l : List (ℕ × Parcel)). AreInTime (g.S.Disk.view c.args.self.now.site).disk.beat l) (sym same) c.args.self.now.taken_in_time;
      taken_since = omega (arith, c.args.self.now.taken_since, ap length c.make_room.ensures.taken);
      put_since = c.args.self.now.put_since;
      reads = since_none c.args.self.now.asking false (mark_of g.K.Link.view c.args.self.now.mark) (lines_of g.K.Link.view c.args.self.now.lines) (lines_of g.K.Link.view c.want_memory.new.self) (taken_by g.S.Disk.view c.args.self.now.taken.items) (taken_by g.S.Disk.view c.make_room.new.taken.items) same takes c.args.self.now.reads;
      sends = sent_by_take c.args.self.now.asking false (mark_of g.K.Link.view c.args.self.now.mark) None (lines_of g.K.Link.view c.args.self.now.lines) (lines_of g.K.Link.view c.want_memory.new.self) (puts_by g.S.Disk.view c.args.self.now.puts.items) takes c.args.self.now.sends;
    }

pub invariant_of-self-in-Ok-Some : goal.invariant_of-self-in-Ok-Some
invariant_of-self-in-Ok-Some g c =
    let more = taken_more g.S.Disk.view c.args.self.now.site (record { at = c.of-at.result; parcel = c.of.result }) c.args.self.now.taken.items c.make_room.new.taken.items c.push_reserved.new.self.items c.of-at.ensures c.make_room.ensures.taken c.push_reserved.ensures.items in
    let takes : TakesBy c.args.self.now.asking c.is_owed-owed.result (Some c.of.result.value) (lines_of g.K.Link.view c.args.self.now.lines) (lines_of g.K.Link.view c.take.new.self) =
    subst (λ (t : Option Parcel). TakesBy c.args.self.now.asking c.is_owed-owed.result t (lines_of g.K.Link.view c.args.self.now.lines) (lines_of g.K.Link.view c.take.new.self)) (c.in-Ok-Some.field-0-is ∙ ap Some (sym c.of.ensures)) c.in-Ok-Some.ensures.takes in
    record {
      puts_in_time = c.args.self.now.puts_in_time;
      taken_in_time = in_time_push (g.S.Disk.view c.args.self.now.site).disk.beat (taken_by g.S.Disk.view c.args.self.now.taken.items) (taken_by g.S.Disk.view c.push_reserved.new.self.items) c.of.result.value more c.args.self.now.taken_in_time;
      taken_since = omega (arith, c.args.self.now.taken_since, ap length c.make_room.ensures.taken, ap length c.push_reserved.ensures.items, length_push c.make_room.new.taken.items (record { at = c.of-at.result; parcel = c.of.result }));
      put_since = c.args.self.now.put_since;
      reads = since_some c.args.self.now.asking c.is_owed-owed.result (mark_of g.K.Link.view c.args.self.now.mark) (lines_of g.K.Link.view c.args.self.now.lines) (lines_of g.K.Link.view c.take.new.self) (taken_by g.S.Disk.view c.args.self.now.taken.items) (taken_by g.S.Disk.view c.push_reserved.new.self.items)
          ((g.S.Disk.view c.args.self.now.site).disk.beat, c.of.result.value) (fits_taken g.S.Disk.view c.args.self.now.mark.taken c.args.self.now.taken.items c.args.self.now.taken_since) more takes c.args.self.now.reads;
      sends = sent_by_take c.args.self.now.asking c.is_owed-owed.result (mark_of g.K.Link.view c.args.self.now.mark) (Some c.of.result.value) (lines_of g.K.Link.view c.args.self.now.lines) (lines_of g.K.Link.view c.take.new.self) (puts_by g.S.Disk.view c.args.self.now.puts.items) takes c.args.self.now.sends;
    }

pub invariant_of-self-in-Ok-None : goal.invariant_of-self-in-Ok-None
invariant_of-self-in-Ok-None g c =
    let same = ap (taken_by g.S.Disk.view) c.make_room.ensures.taken in
    let takes : TakesBy c.args.self.now.asking c.is_owed-owed.result None (lines_of g.K.Link.view c.args.self.now.lines) (lines_of g.K.Link.view c.take.new.self) =
    subst (λ (t : Option Parcel). TakesBy c.args.self.now.asking c.is_owed-owed.result t (lines_of g.K.Link.view c.args.self.now.lines) (lines_of g.K.Link.view c.take.new.self)) c.in-Ok-None.field-0-is c.in-Ok-None.ensures.takes in
    record {
      puts_in_time = c.args.self.now.puts_in_time;
      taken_in_time = subst (λ (l : List (ℕ × Parcel)). AreInTime (g.S.Disk.view c.args.self.now.site).disk.beat l) (sym same) c.args.self.now.taken_in_time;
      taken_since = omega (arith, c.args.self.now.taken_since, ap length c.make_room.ensures.taken);
      put_since = c.args.self.now.put_since;
      reads = since_none c.args.self.now.asking c.is_owed-owed.result (mark_of g.K.Link.view c.args.self.now.mark) (lines_of g.K.Link.view c.args.self.now.lines) (lines_of g.K.Link.view c.take.new.self) (taken_by g.S.Disk.view c.args.self.now.taken.items) (taken_by g.S.Disk.view c.make_room.new.taken.items) same takes c.args.self.now.reads;
      sends = sent_by_take c.args.self.now.asking c.is_owed-owed.result (mark_of g.K.Link.view c.args.self.now.mark) None (lines_of g.K.Link.view c.args.self.now.lines) (lines_of g.K.Link.view c.take.new.self) (puts_by g.S.Disk.view c.args.self.now.puts.items) takes c.args.self.now.sends;
    }

pub invariant_of-self-in-Err-1 : goal.invariant_of-self-in-Err-1
invariant_of-self-in-Err-1 g c =
    let same = ap (taken_by g.S.Disk.view) c.make_room.ensures.taken in
    let takes : TakesBy c.args.self.now.asking c.is_owed-owed.result None (lines_of g.K.Link.view c.args.self.now.lines) (lines_of g.K.Link.view c.take.new.self) = c.in-Err.ensures.takes in
    record {
      puts_in_time = c.args.self.now.puts_in_time;
      taken_in_time = subst (λ (l : List (ℕ × Parcel)). AreInTime (g.S.Disk.view c.args.self.now.site).disk.beat l) (sym same) c.args.self.now.taken_in_time;
      taken_since = omega (arith, c.args.self.now.taken_since, ap length c.make_room.ensures.taken);
      put_since = c.args.self.now.put_since;
      reads = since_none c.args.self.now.asking c.is_owed-owed.result (mark_of g.K.Link.view c.args.self.now.mark) (lines_of g.K.Link.view c.args.self.now.lines) (lines_of g.K.Link.view c.take.new.self) (taken_by g.S.Disk.view c.args.self.now.taken.items) (taken_by g.S.Disk.view c.make_room.new.taken.items) same takes c.args.self.now.reads;
      sends = sent_by_take c.args.self.now.asking c.is_owed-owed.result (mark_of g.K.Link.view c.args.self.now.mark) None (lines_of g.K.Link.view c.args.self.now.lines) (lines_of g.K.Link.view c.take.new.self) (puts_by g.S.Disk.view c.args.self.now.puts.items) takes c.args.self.now.sends;
    }
