-- The record of the entry is told, or why it was not.
use Rattle.std.proofs.Common.{◌≡◌, Bool, Ok, Some, true, false, ap, rules}
use Rattle.run_records.specs.Layout.{layout}
use Rattle.run_records.specs.Ranges.{InRange}
use Rattle.run_records.specs.Reading.{record_of}
use Rattle.cacao_view_log.proofs.TellLemmas.{cannot_follow, refuses_next, tells_entry}
use Rattle.cacao_view_log.proofs.telling.tell_next.Goals as goal

pub returns-in-Ok-push-clause-told : goal.returns-in-Ok-push-clause-told
returns-in-Ok-push-clause-told c =
    let v = c.args.flow.now in
    let r = c.in-Ok-Some.item in
    let in_range : InRange r = search rules in
    let is : c.args.entry.now ≡ layout r = search rules in
    let good : c.in-Ok-true.field-0 ≡ true = search rules in
    λ e. tells_entry c.args.form v c.take.new.flow c.args.texts.now.items c.push.new.self.items c.args.senders.now.items c.tell_record.new.senders.items c.args.entry.now c.in-Ok.text r c.args.n
    in_range is (c.in-Ok-true.ensures.took (ap (λ (b : Bool). Ok b) good)) c.requires.counted c.in-Ok.ensures.text c.in-Ok-push.ensures.items c.in-Ok.ensures.noted

pub returns-in-Ok-false-clause-bad : goal.returns-in-Ok-false-clause-bad
returns-in-Ok-false-clause-bad c =
    let r = c.in-Ok-Some.item in
    let reads : record_of c.args.entry.now ≡ Some r = search rules in
    let bad : c.in-Ok-false.field-0 ≡ false = search rules in
    λ e. cannot_follow c.args.flow.now c.args.entry.now r reads (c.in-Ok-false.ensures.bad (ap (λ (b : Bool). Ok b) bad))

pub returns-in-Err-take-clause-refused : goal.returns-in-Err-take-clause-refused
returns-in-Err-take-clause-refused c =
    let r = c.in-Ok-Some.item in
    let reads : record_of c.args.entry.now ≡ Some r = search rules in
    refuses_next c.args.flow.now c.args.entry.now r c.in-Err-take.error reads c.in-Err-take.ensures.refused
