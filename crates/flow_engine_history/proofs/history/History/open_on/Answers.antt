use Rattle.std.proofs.Common.{Err, sym, subst, ap}
use Rattle.run_journal.specs.declared.error.JournalError.{JournalError}
use Rattle.flow_core_rules.specs.Givens.{Given}
use Rattle.flow_core_rules.specs.State.{Shown}
use Rattle.std.specs.Prelude.{IsTrue}
use Rattle.flow_engine_history.specs.HistoryView.{entries_of}
use Rattle.flow_engine_history.specs.Openings.{IsRefusedOpening}
use Rattle.flow_engine_history.specs.Replays.{RefusesReplay}
use Rattle.flow_engine_history.specs.declared.error.EngineError.{EngineError}
use Rattle.flow_engine_history.proofs.OpenedLemmas.{opened_image, refused_entries, refused_journal}
use Rattle.flow_engine_history.proofs.history.History.open_on.Goals as goal

pub returns-in-Err-clause-refused : goal.returns-in-Err-clause-refused
returns-in-Err-clause-refused g c =
    subst (λ (e : EngineError). IsRefusedOpening c.args.setup c.args.run e (g.D.Disk.view c.args.disk.now) (g.D.Disk.view c.open_on.new.disk)) (sym c.from.ensures)
    (refused_journal c.args.setup c.args.run c.in-Err.error (g.D.Disk.view c.args.disk.now) (g.D.Disk.view c.open_on.new.disk)
    (λ place e. c.in-Err.ensures.damaged_durable place (ap (λ (j : JournalError). Err j) e))
    (λ place e. c.in-Err.ensures.damaged place (ap (λ (j : JournalError). Err j) e))
    (λ e. c.in-Err.ensures.disk (ap (λ (j : JournalError). Err j) e))
    (λ needed. (
      λ e. (c.in-Err.ensures.no_other needed).0 (ap (λ (j : JournalError). Err j) e),
      λ e. (c.in-Err.ensures.no_other needed).1 (ap (λ (j : JournalError). Err j) e),
    )))

pub returns-in-Err-replay-clause-refused : goal.returns-in-Err-replay-clause-refused
returns-in-Err-replay-clause-refused g c =
    refused_entries c.args.setup c.args.run c.in-Ok.journal.items c.in-Err-replay.error (g.D.Disk.view c.args.disk.now) (g.D.Disk.view c.open_on.new.disk)
    c.in-Ok.ensures.durable c.in-Ok.ensures.stands
    (subst (λ (given : Given). RefusesReplay given c.args.run c.in-Ok.journal.items c.in-Err-replay.error) (ap (λ (s : Shown). s.given) c.idle-flow.ensures.seen) c.in-Err-replay.ensures.refused)

pub returns-in-Ok-replay-clause-ready : goal.returns-in-Ok-replay-clause-ready
returns-in-Ok-replay-clause-ready g c = λ whole told image left.
    let was = subst IsTrue c.in-Ok.ensures.each_beat.goes_on.told told in
    opened_image c.in-Ok.journal.items (entries_of c.opened.result.records) c.in-Ok.journal.prepared c.opened.result.prepared (g.D.Disk.view c.open_on.new.disk).disk
    c.in-Ok.ensures.durable (c.in-Ok.ensures.stands was) (c.in-Ok.ensures.prepared was) c.opened.ensures.entries c.opened.ensures.prepared image left
