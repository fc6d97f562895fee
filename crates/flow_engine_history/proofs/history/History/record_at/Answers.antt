use Rattle.std.proofs.Common.{◌≡◌, ◌<◌, ◌∙◌, length, ap, sym, subst}
use Rattle.std.specs.Prelude.{slice_get}
use Rattle.run_records.specs.Reading.{record_of}
use Rattle.flow_engine_history.specs.HistoryView.{HistoryView}
use Rattle.flow_engine_history.specs.KeptHistory.{records_of}
use Rattle.flow_engine_history.proofs.HistoryLemmas.{not_past}
use Rattle.flow_engine_history.proofs.LineLemmas.{record_there}
use Rattle.flow_engine_history.proofs.history.History.record_at.Goals as goal

pub unreachable-requires : goal.unreachable-requires
unreachable-requires c =
    let rs = records_of c.self.inside.journal.items in
    let lt : c.args.n < length rs = subst (λ (v : HistoryView). c.args.n < length v.records) (sym c.self.view_is) c.requires in
    let found : c.in_ok-item.field-0 ≡ slice_get rs c.args.n =
    c.in_ok-item.ensures.value ∙ ap record_of c.entry.ensures ∙ record_there c.self.inside c.args.n c.self.invariant lt in
    not_past rs c.args.n lt (sym found ∙ c.in-None.is)

pub returns-clause-there : goal.returns-clause-there
returns-clause-there c =
    let rs = records_of c.self.inside.journal.items in
    let lt : c.args.n < length rs = subst (λ (v : HistoryView). c.args.n < length v.records) (sym c.self.view_is) c.requires in
    let found : c.in_ok-item.field-0 ≡ slice_get rs c.args.n =
    c.in_ok-item.ensures.value ∙ ap record_of c.entry.ensures ∙ record_there c.self.inside c.args.n c.self.invariant lt in
    ap (λ (v : HistoryView). slice_get v.records c.args.n) (sym c.self.view_is) ∙ sym found ∙ c.in-Some.is
