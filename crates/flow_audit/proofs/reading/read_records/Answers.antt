use Rattle.std.proofs.Common.{◌≡◌, ◌+◌, List, length, Some, None, refl, sym, ap, subst, ◌∙◌, arith}
use Rattle.run_journal.specs.Image.{ArePlaced, bytes_of}
use Rattle.run_journal.specs.Layout.{Stands}
use Rattle.run_journal.specs.declared.entries.Entry.{Entry}
use Rattle.run_records.specs.Ranges.{InRange}
use Rattle.run_records.specs.Reading.{record_of}
use Rattle.run_records.specs.declared.record.Record.{Record}
use Rattle.flow_audit.proofs.ReadLemmas.{ReadUpTo, read_more, read_none, read_stray, read_whole}
use Rattle.flow_audit.proofs.reading.read_records.Goals as goal

pub loop-entry-init : goal.loop-entry-init
loop-entry-init c =
    subst (λ (vs : List Record). ReadUpTo record_of InRange c.as_slice-entry-items.result.now 0 vs) (sym c.new-records.ensures.items) (read_none record_of InRange c.as_slice-entry-items.result.now)

pub loop-entry-preserved : goal.loop-entry-preserved
loop-entry-preserved c =
    let items = c.as_slice-entry-items.result.now in
    let at = c.loop-entry.entry-index in
    let found : record_of c.entry-item.result.bytes ≡ Some c.in-Some.item = ap record_of (sym c.as_slice.ensures) ∙ sym c.in_ok-item.ensures.value ∙ c.in-Some.is in
    let fits : InRange c.in-Some.item = (rw c.in-Some.is at c.in_ok-item.ensures.found).0 in
    subst (λ (vs : List Record). ReadUpTo record_of InRange items (at + 1) vs) (sym c.in_ok-push-in-Some.ensures.items)
    (read_more record_of InRange items at c.entry-item.result c.loop-entry.records.items c.in-Some.item (omega arith) c.entry-item.is c.loop-entry.invariant found fits)

pub returns-in-None-clause-stops : goal.returns-in-None-clause-stops
returns-in-None-clause-stops c =
    let items = c.as_slice-entry-items.result.now in
    let none : record_of c.entry-item.result.bytes ≡ None = ap record_of (sym c.as_slice.ensures) ∙ sym c.in_ok-item.ensures.value ∙ c.in-None.is in (
      refl,
      read_stray record_of InRange c.args.image.now items c.loop-entry.entry-index c.entry-item.result c.loop-entry.records.items (omega arith) c.entry-item.is
          (subst (λ (l : List Entry). Stands c.args.image.now (bytes_of l)) (sym c.as_slice-entry-items.ensures) c.in-Ok.ensures.stands)
          (subst ArePlaced (sym c.as_slice-entry-items.ensures) c.in-Ok.ensures.placed) c.loop-entry.invariant none,
    )

pub returns-clause-ok : goal.returns-clause-ok
returns-clause-ok c =
    read_whole record_of InRange c.args.image.now c.in-Ok.entries c.loop-entry.entry-index c.loop-entry.records.items (omega (arith, c.loop-entry-test.false, ap length c.as_slice-entry-items.ensures))
    c.in-Ok.ensures.stands c.in-Ok.ensures.placed (subst (λ (l : List Entry). ReadUpTo record_of InRange l c.loop-entry.entry-index c.loop-entry.records.items) c.as_slice-entry-items.ensures c.loop-entry.invariant)
