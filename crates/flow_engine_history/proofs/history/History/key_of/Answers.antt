use Rattle.std.proofs.Common.{◌≡◌, ◌<◌, ◌∙◌, Some, length, ap, refl, sym, subst, arith}
use Rattle.std.specs.Prelude.{slice_get}
use Rattle.std.proofs.lemmas.Option.{slice_get_read}
use Rattle.flow_core_rules.specs.Givens.{Given}
use Rattle.flow_engine_history.specs.HistoryView.{HistoryView}
use Rattle.flow_engine_history.specs.KeptHistory.{history_view, records_of}
use Rattle.flow_engine_history.specs.LineParts.{IsKeyAt, key_at}
use Rattle.flow_engine_history.proofs.HistoryLemmas.{get_within}
use Rattle.flow_engine_history.proofs.LineLemmas.{key_there}
use Rattle.flow_engine_history.proofs.history.History.key_of.Goals as goal

pub returns : goal.returns
returns c =
    let h = c.self.inside in
    let n = c.args.n in
    let item = c.args.item.now in
    let stand = c.index.result.now in
    let e : slice_get (records_of h.journal.items) n ≡ Some item = ap (λ (v : HistoryView). slice_get v.records n) c.self.view_is ∙ c.requires in
    let within : n < length (records_of h.journal.items) = get_within (records_of h.journal.items) n item e in
    let lt : n < length h.stands.items = omega (arith, within, c.self.invariant.many) in
    let there : slice_get h.stands.items n ≡ Some stand = slice_get_read h.stands.items (length h.stands.items) n stand refl lt c.index.ensures in
    let key : c.key_at.result.now ≡ key_at h.flow.seen.given stand = c.key_at.ensures ∙ ap (λ (g : Given). key_at g stand) c.setup.ensures in
    subst (λ (v : HistoryView). IsKeyAt v n item c.key_at.result.now) c.self.view_is
    (subst (IsKeyAt (history_view h) n item) (sym key) (key_there h n item stand c.law.ensures.setup c.self.invariant e there))
