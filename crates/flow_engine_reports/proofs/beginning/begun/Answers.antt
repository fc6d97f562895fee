use Rattle.std.proofs.Common.{◌≡◌, ◌∙◌, Some, sym}
use Rattle.std.proofs.lemmas.Result.{IfOk-weaker}
use Rattle.run_records.specs.Layout.{layout}
use Rattle.run_records.specs.Ranges.{InRange}
use Rattle.run_records.specs.Reading.{record_of}
use Rattle.run_records.specs.declared.record.Record.{Record}
use Rattle.flow_engine_reports.proofs.BeginLemmas.{by_entry, some-arm}
use Rattle.flow_engine_reports.proofs.beginning.begun.Goals as goal

pub returns : goal.returns
returns c =
    let item = c.in-Some.item in
    let entry = c.args.entry.now in
    let reads : record_of entry ≡ Some item = sym c.in_ok-item.ensures.value ∙ c.in-Some.is in
    let found = some-arm _ (λ (x : Record). InRange x × (entry ≡ layout x)) c.in_ok-item.field-0 item c.in_ok-item.ensures.found c.in-Some.is in
    IfOk-weaker c.begun.result _ _ (λ o h. by_entry entry item o reads found.0 found.1 h) c.begun.ensures
