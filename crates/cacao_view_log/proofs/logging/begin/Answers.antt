use Rattle.std.proofs.Common.{◌≡◌, ◌∙◌, sym}
use Rattle.run_records.specs.Layout.{layout}
use Rattle.run_records.specs.Ranges.{InRange}
use Rattle.run_records.specs.declared.record.Record.{Record}
use Rattle.flow_engine_reports.specs.Beginnings.{HasBegun, IsNotBegun}
use Rattle.flow_engine_reports.proofs.BeginLemmas.{none-arm, some-arm}
use Rattle.cacao_view_log.specs.Telling.{IsEntryOf}
use Rattle.cacao_view_log.proofs.LogLemmas.{logged_first}
use Rattle.cacao_view_log.proofs.TellLemmas.{pushed_first}
use Rattle.cacao_view_log.proofs.logging.begin.Goals as goal

pub returns-in_default-2 : goal.returns-in_default-2
returns-in_default-2 c =
    let item = c.in-Some.item in
    let entry = c.args.entry.now in
    let found = some-arm _ (λ (x : Record). InRange x × (entry ≡ layout x)) c.in_ok-item.field-0 item c.in_ok-item.ensures.found c.in-Some.is in
    let of : IsEntryOf item entry = record { reads = sym c.in_ok-item.ensures.value ∙ c.in-Some.is; is = found.1 } in
    none-arm (IsNotBegun entry) (HasBegun entry) c.in_ok-flow.field-0 (c.in_ok-flow.ensures entry of) c.in_default-2.not-Some

pub returns : goal.returns
returns c =
    let item = c.in-Some.item in
    let entry = c.args.entry.now in
    let flow = c.in-Some-2.flow in
    let found = some-arm _ (λ (x : Record). InRange x × (entry ≡ layout x)) c.in_ok-item.field-0 item c.in_ok-item.ensures.found c.in-Some.is in
    let of : IsEntryOf item entry = record { reads = sym c.in_ok-item.ensures.value ∙ c.in-Some.is; is = found.1 } in
    let begun : HasBegun entry flow = some-arm (IsNotBegun entry) (HasBegun entry) c.in_ok-flow.field-0 flow (c.in_ok-flow.ensures entry of) c.in-Some-2.is in
    record {
      begun = begun;
      logged = logged_first c.args.form entry item flow _ c.args.senders.now.items c.tell_record.new.senders.items of found.0 begun c.requires.senders
          (pushed_first _ _ _ _ c.requires.texts c.in_ok-push.ensures.items c.in_ok-text.ensures.text) c.in_ok-text.ensures.noted;
    }
