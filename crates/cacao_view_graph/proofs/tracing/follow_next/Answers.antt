-- The record of the entry is followed, or why it was not.
use Rattle.std.proofs.Common.{◌≡◌, Bool, Ok, Some, true, false, ap, rules}
use Rattle.run_records.specs.Layout.{layout}
use Rattle.run_records.specs.Ranges.{InRange}
use Rattle.run_records.specs.Reading.{record_of}
use Rattle.cacao_view_log.proofs.TellLemmas.{cannot_follow, refuses_next}
use Rattle.cacao_view_graph.proofs.tracing.follow_next.Goals as goal

pub returns-in-Ok-true-clause-followed : goal.returns-in-Ok-true-clause-followed
returns-in-Ok-true-clause-followed c =
    let r = c.in-Ok-Some.item in
    let in_range : InRange r = search rules in
    let is : c.args.entry.now ≡ layout r = search rules in
    let good : c.in-Ok-true.field-0 ≡ true = search rules in
    let took = c.in-Ok-true.ensures.took (ap (λ (b : Bool). Ok b) good) in
    λ e. record {
      takes = record { r = r; in_range = in_range; is = is; edits = took.edits; takes = took.takes; new_is = took.new_is };
      adds = c.in-Ok.ensures;
    }

pub returns-in-Ok-false-clause-bad : goal.returns-in-Ok-false-clause-bad
returns-in-Ok-false-clause-bad c =
    let r = c.in-Ok-Some.item in
    let reads : record_of c.args.entry.now ≡ Some r = search rules in
    let bad : c.in-Ok-false.field-0 ≡ false = search rules in
    λ e. cannot_follow c.args.flow.now c.args.entry.now r reads (c.in-Ok-false.ensures.bad (ap (λ (b : Bool). Ok b) bad))

pub returns-clause-refused : goal.returns-clause-refused
returns-clause-refused c =
    let r = c.in-Ok-Some.item in
    let reads : record_of c.args.entry.now ≡ Some r = search rules in
    refuses_next c.args.flow.now c.args.entry.now r c.in-Err-take.error reads c.in-Err-take.ensures.refused
