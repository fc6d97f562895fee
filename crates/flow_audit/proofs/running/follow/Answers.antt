use Rattle.std.proofs.Common.{◌≡◌, List, Option, Some, refl, sym, ap, subst, take}
use Rattle.std.specs.Prelude.{MatchOption, slice_get}
use Rattle.run_records.specs.declared.record.Record.{Record}
use Rattle.flow_core.specs.TakenRecords.{BeginsNone, HasBegun}
use Rattle.flow_core.specs.Views.{View}
use Rattle.flow_audit.specs.Parts.{HasTaken}
use Rattle.flow_audit.proofs.BeginLemmas.{begun_flow, no_run}
use Rattle.flow_audit.proofs.ListLemmas.{first_is}
use Rattle.flow_audit.proofs.RunLemmas.{stops_first}
use Rattle.flow_audit.proofs.running.follow.Goals as goal

pub follow_others-requires-clause-begun : goal.follow_others-requires-clause-begun
follow_others-requires-clause-begun c =
    let records = c.args.file.now.records.items in
    let first = c.in-Some.first.now in
    let there : slice_get records 0 ≡ Some first = subst (λ (l : List Record). slice_get l 0 ≡ Some first) c.deref.ensures.value (sym c.in-Some.ensures.value) in
    let is = first_is records first there in
    let begun : HasBegun first c.in-Ok-Some.flow = subst (λ (o : Option View). MatchOption o (BeginsNone first) (HasBegun first)) c.in-Ok-Some.field-0-is c.in-Ok-Some.ensures in
    subst (λ (l : List Record). HasTaken l c.in-Ok-Some.flow) (sym (ap (take 1) is.1)) (begun_flow first c.in-Ok-Some.flow begun c.law.ensures.sizes.tasks)

pub returns-in-Ok-None-clause-stops : goal.returns-in-Ok-None-clause-stops
returns-in-Ok-None-clause-stops c =
    let records = c.args.file.now.records.items in
    let first = c.in-Some.first.now in
    let there : slice_get records 0 ≡ Some first = subst (λ (l : List Record). slice_get l 0 ≡ Some first) c.deref.ensures.value (sym c.in-Some.ensures.value) in
    let is = first_is records first there in
    let none : BeginsNone first = subst (λ (o : Option View). MatchOption o (BeginsNone first) (HasBegun first)) c.in-Ok-None.field-0-is c.in-Ok-None.ensures in
    let stops = stops_first records first is.0 is.1 (no_run first none) in
    (refl, (0, stops.0, stops.1, c.gate.ensures))
