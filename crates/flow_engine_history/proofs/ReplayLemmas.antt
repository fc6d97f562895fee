-- The flow and the stands behind one entry more.
use Rattle.std.proofs.Common.{◌≡◌, ℕ, List, [], ◌∷◌, ◌++◌, length, refl, sym, subst, ap, ◌∙◌, arith, length-append}
use Rattle.std.proofs.lemmas.Option.{none-some}
use Rattle.run_records.specs.Ranges.{InRange}
use Rattle.run_records.specs.declared.record.Record.{Record}
use Rattle.flow_core_rules.specs.Givens.{Given}
use Rattle.flow_core_rules.specs.State.{Shown}
use Rattle.flow_core.specs.TakenRecords.{HasTaken, Took}
use Rattle.flow_core.specs.Views.{View, blank_shown}
pub use Rattle.flow_core.proofs.FlowLemmas.{taken_first, taken_later}
use Rattle.flow_core.proofs.TakenLemmas.{took_more, took_none}
use Rattle.flow_engine_history.specs.HistoryView.{entries_of}
use Rattle.flow_engine_history.specs.KeptHistory.{AreStands, stand_before}
use Rattle.flow_engine_history.specs.Replays.{IsReplayed, Stands, TakesEntry}
use Rattle.flow_engine_history.proofs.HistoryLemmas.{all_push, entries_push, stands_more}

abbrev StoodBy : List Record → Stands → Given → ℕ → Type 0
StoodBy records stands given run = AreStands given run records stands

-- stands by what was given, and by what is shown
stood_as : (records : List Record) (stands : Stands) (given g : Given) (run k : ℕ) → g ≡ given → k ≡ run → StoodBy records stands g k → StoodBy records stands given run
stood_as records stands given g run k p q h = subst (StoodBy records stands given) q (subst (λ (x : Given). StoodBy records stands x k) p h)

pub replayed_more : (given : Given) (run : ℕ) (items : List (List ℕ)) (v w : View) (kept more : Stands) (item : List ℕ) → IsReplayed given run items v kept
    → TakesEntry v kept item w more → IsReplayed given run (items ++ item ∷ []) w more
replayed_more given run items v w kept more item h t =
    let r : Record = t.r in
    let took : Took v r w = t.took.took in
    let after : HasTaken (h.records ++ r ∷ []) w = took_more h.records v w r (record { count = h.count; so_far = h.so_far }) took in
    let before : AreStands v.seen.given v.seen.run h.records kept = stood_as h.records kept v.seen.given given v.seen.run run (sym h.given_is) (sym h.run_is) h.stood in
    let behind : AreStands v.seen.given v.seen.run (h.records ++ r ∷ []) (kept ++ stand_before v.seen r ∷ []) = stands_more h.records v.seen r kept before h.many h.so_far in
    record {
      records = h.records ++ r ∷ [];
      are = ap (λ (l : List (List ℕ)). l ++ item ∷ []) h.are ∙ ap (λ (e : List ℕ). entries_of h.records ++ e ∷ []) t.is ∙ sym (entries_push h.records r);
      ranges = all_push InRange h.records r h.ranges t.in_range;
      count = after.count;
      given_is = ap (λ (x : View). x.seen.given) took.new_is ∙ h.given_is;
      run_is = ap (λ (x : View). x.seen.run) took.new_is ∙ h.run_is;
      so_far = after.so_far;
      stood = subst (λ (l : Stands). AreStands given run (h.records ++ r ∷ []) l) (sym t.took.more_is)
          (stood_as (h.records ++ r ∷ []) (kept ++ stand_before v.seen r ∷ []) given v.seen.given run v.seen.run h.given_is h.run_is behind);
      many = ap length t.took.more_is ∙ omega (arith, length-append kept (stand_before v.seen r ∷ []), length-append h.records (r ∷ []), h.many);
    }

-- nothing was taken
pub replayed_none : (given : Given) (run : ℕ) (v : View) → v.count ≡ 0 → v.seen ≡ blank_shown given run → IsReplayed given run [] v []
replayed_none given run v c e = record {
  records = [];
  are = refl;
  ranges = tt;
  count = c;
  given_is = ap (λ (x : Shown). x.given) e;
  run_is = ap (λ (x : Shown). x.run) e;
  so_far = (took_none v given run c e).so_far;
  stood = λ n r is. absurd (none-some r is);
  many = refl;
}
