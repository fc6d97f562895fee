use Rattle.std.proofs.Common.{◌<◌, inl, arith, drop, length}
use Rattle.flow_engine_history.proofs.OpenLemmas.{first_entry}
use Rattle.flow_engine_reports.specs.Beginnings.{HasBegun, IsNotBegun}
use Rattle.flow_engine_reports.proofs.BeginLemmas.{none-case, place-is, some-arm}
use Rattle.flow_engine_reports.proofs.ReportLemmas.{reports-run}
use Rattle.flow_engine_reports.proofs.reports.run_report.Goals as goal

pub returns-in-Ok-None-clause-damaged : goal.returns-in-Ok-None-clause-damaged
returns-in-Ok-None-clause-damaged c =
    let items = c.args.journal.now.items in
    let some : 0 < length items = omega arith in
    let bad : IsNotBegun c.entry.result.now = none-case _ (HasBegun c.entry.result.now) c.in-Ok-None.field-0 c.in-Ok-None.ensures c.in-Ok-None.field-0-is in
    λ place e. inl (
      record {
        first = c.entry.result.now;
        others = drop 1 items;
        are = first_entry items c.entry.result.now some c.entry.ensures;
        bad = bad;
      },
      place-is place e,
    )

pub returns-in-Ok-report-clause-ok : goal.returns-in-Ok-report-clause-ok
returns-in-Ok-report-clause-ok c =
    let items = c.args.journal.now.items in
    let some : 0 < length items = omega arith in
    let first = c.entry.result.now in
    let begun : HasBegun first c.in-Ok-Some.flow = some-arm (IsNotBegun first) (HasBegun first) c.in-Ok-Some.field-0 c.in-Ok-Some.flow c.in-Ok-Some.ensures c.in-Ok-Some.field-0-is in
    reports-run items first c.in-Ok-Some.flow c.replay.new.flow c.in-Ok-report.text (first_entry items first some c.entry.ensures) begun c.in-Ok-replay.ensures.ok c.law.ensures.sizes.tasks c.in-Ok-report.ensures
