use Rattle.std.proofs.Common.{◌≡◌, ◌∙◌, sym}
use Rattle.run_records.specs.Layout.{layout}
use Rattle.run_records.specs.Ranges.{InRange}
use Rattle.run_records.specs.declared.record.Record.{Record}
use Rattle.flow_engine_reports.proofs.BeginLemmas.{some-arm}
use Rattle.cacao_view_log.specs.Telling.{IsEntryOf}
use Rattle.cacao_view_graph.proofs.CourseLemmas.{begun_course}
use Rattle.cacao_view_graph.proofs.following.begin.Goals as goal

pub returns : goal.returns
returns c =
    let item = c.in-Some.item in
    let entry = c.args.entry.now in
    let found = some-arm _ (λ (x : Record). InRange x × (entry ≡ layout x)) c.in_ok-item.field-0 item c.in_ok-item.ensures.found c.in-Some.is in
    let of : IsEntryOf item entry = record { reads = sym c.in_ok-item.ensures.value ∙ c.in-Some.is; is = found.1 } in
    begun_course entry item c.args.course.now c.begun.result of found.0 c.requires.walked c.requires.sent (c.begun.ensures entry of)
