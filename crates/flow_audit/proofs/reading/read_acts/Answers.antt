use Rattle.std.proofs.Common.{◌≡◌, ◌+◌, List, length, Some, None, refl, sym, ap, subst, ◌∙◌, arith}
use Rattle.run_journal.specs.Image.{ArePlaced, bytes_of}
use Rattle.run_journal.specs.Layout.{Stands}
use Rattle.run_journal.specs.declared.entries.Entry.{Entry}
use Rattle.run_records.specs.Ranges.{ActInRange}
use Rattle.run_records.specs.Reading.{act_of}
use Rattle.run_records.specs.declared.act.Act.{Act}
use Rattle.flow_audit.proofs.ReadLemmas.{ReadUpTo, read_more, read_none, read_stray, read_whole}
use Rattle.flow_audit.proofs.reading.read_acts.Goals as goal

pub loop-entry-init : goal.loop-entry-init
loop-entry-init c =
    subst (λ (vs : List Act). ReadUpTo act_of ActInRange c.as_slice-entry-items.result.now 0 vs) (sym c.new-acts.ensures.items) (read_none act_of ActInRange c.as_slice-entry-items.result.now)

pub loop-entry-preserved : goal.loop-entry-preserved
loop-entry-preserved c =
    let items = c.as_slice-entry-items.result.now in
    let at = c.loop-entry.entry-index in
    let found : act_of c.entry-item.result.bytes ≡ Some c.in-Some.act = ap act_of (sym c.as_slice.ensures) ∙ sym c.in_ok-act.ensures.value ∙ c.in-Some.is in
    let fits : ActInRange c.in-Some.act = (rw c.in-Some.is at c.in_ok-act.ensures.found).0 in
    subst (λ (vs : List Act). ReadUpTo act_of ActInRange items (at + 1) vs) (sym c.in_ok-push-in-Some.ensures.items)
    (read_more act_of ActInRange items at c.entry-item.result c.loop-entry.acts.items c.in-Some.act (omega arith) c.entry-item.is c.loop-entry.invariant found fits)

pub returns-in-None-clause-stops : goal.returns-in-None-clause-stops
returns-in-None-clause-stops c =
    let items = c.as_slice-entry-items.result.now in
    let none : act_of c.entry-item.result.bytes ≡ None = ap act_of (sym c.as_slice.ensures) ∙ sym c.in_ok-act.ensures.value ∙ c.in-None.is in (
      refl,
      read_stray act_of ActInRange c.args.image.now items c.loop-entry.entry-index c.entry-item.result c.loop-entry.acts.items (omega arith) c.entry-item.is
          (subst (λ (l : List Entry). Stands c.args.image.now (bytes_of l)) (sym c.as_slice-entry-items.ensures) c.in-Ok.ensures.stands)
          (subst ArePlaced (sym c.as_slice-entry-items.ensures) c.in-Ok.ensures.placed) c.loop-entry.invariant none,
    )

pub returns-clause-ok : goal.returns-clause-ok
returns-clause-ok c =
    read_whole act_of ActInRange c.args.image.now c.in-Ok.entries c.loop-entry.entry-index c.loop-entry.acts.items (omega (arith, c.loop-entry-test.false, ap length c.as_slice-entry-items.ensures))
    c.in-Ok.ensures.stands c.in-Ok.ensures.placed (subst (λ (l : List Entry). ReadUpTo act_of ActInRange l c.loop-entry.entry-index c.loop-entry.acts.items) c.as_slice-entry-items.ensures c.loop-entry.invariant)
