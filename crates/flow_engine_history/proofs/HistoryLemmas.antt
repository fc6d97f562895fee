-- What a `History` keeps with one record more.
use Rattle.std.proofs.Common.{◌≡◌, ◌⊎◌, inl, inr, ℕ, zero, suc, ◌<◌, ◌≤◌, List, [], ◌∷◌, ◌++◌, length, Option, Some, None, arith, refl, ap, sym, subst, ◌∙◌, length-append}
use Rattle.std.specs.Prelude.{slice_get, take, unwrap_or}
use Rattle.std.specs.List.{AllByRecursion}
use Rattle.std.proofs.lemmas.List.{length-map, map-append}
use Rattle.std.proofs.lemmas.Option.{none-some}
use Rattle.run_journal.specs.Layout.{front}
use Rattle.run_journal.proofs.Headers.{count-le}
use Rattle.run_records.specs.Layout.{layout}
use Rattle.run_records.specs.Ranges.{InRange}
use Rattle.run_records.specs.declared.record.Record.{Record}
use Rattle.run_records.proofs.EntryLemmas.{records_are_short, records_read_back}
use Rattle.flow_core_rules.specs.Givens.{Given}
use Rattle.flow_core_rules.specs.State.{Shown}
use Rattle.flow_core_rules.specs.Edits.{Edit}
use Rattle.flow_core_rules.specs.Changes.{moment_of}
use Rattle.flow_core_rules.specs.Runs.{shown_after}
use Rattle.flow_core.specs.Flows.{HasSizes}
use Rattle.flow_core.specs.Setups.{IsSetup}
use Rattle.flow_core.specs.Views.{taken}
use Rattle.flow_engine_history.specs.declared.history.History.TheInside.{Inside}
use Rattle.flow_engine_history.specs.HistoryView.{entries_of}
use Rattle.flow_engine_history.specs.Histories.{IsHistory, IsShownBefore, IsSoFar}
use Rattle.flow_engine_history.specs.KeptHistory.{AreStands, IsKept, IsStand, history_view, records_of, stand_before}
use Rattle.flow_engine_history.proofs.SoFarLemmas.{so_far_more}

inner : {A : Type 0} (a b : A) → Some a ≡ Some b → a ≡ b
inner a b h = cc

-- ---- entries and records

pub entries_push : (rs : List Record) (r : Record) → entries_of (rs ++ r ∷ []) ≡ entries_of rs ++ layout r ∷ []
entries_push rs r = map-append layout rs (r ∷ [])

pub all_push : {A : Type 0} (P : A → Type 0) (xs : List A) (x : A) → AllByRecursion P xs → P x → AllByRecursion P (xs ++ x ∷ [])
all_push P [] x all here = (here, tt)
all_push P (y ∷ ys) x all here = (all.0, all_push P ys x all.1 here)

pub records_back : (rs : List Record) → AllByRecursion InRange rs → records_of (entries_of rs) ≡ rs
records_back rs ranges = ap (λ (o : Option (List Record)). unwrap_or o []) (records_read_back rs ranges)

-- one entry more is one record more
pub records_more : (items : List (List ℕ)) (r : Record) → items ≡ entries_of (records_of items) → AllByRecursion InRange (records_of items) → InRange r
    → records_of (items ++ layout r ∷ []) ≡ records_of items ++ r ∷ []
records_more items r is ranges fits =
    let rs : List Record = records_of items in
    let more : items ++ layout r ∷ [] ≡ entries_of (rs ++ r ∷ []) = ap (λ (l : List (List ℕ)). l ++ layout r ∷ []) is ∙ sym (entries_push rs r) in
    ap records_of more ∙ records_back (rs ++ r ∷ []) (all_push InRange rs r ranges fits)

pub entry_fits : (r : Record) → InRange r → length (layout r) ≤ 17_829_888
entry_fits r fits = omega (arith, records_are_short r fits)

-- ---- one element more at the end, by place

module _ {A : Type 0} where
  pub get_front : (xs : List A) (x : A) (n : ℕ) → n < length xs → slice_get (xs ++ x ∷ []) n ≡ slice_get xs n
  get_front [] x n lt = absurd (omega (arith, lt))
  get_front (y ∷ ys) x zero lt = refl
  get_front (y ∷ ys) x (suc n) lt = get_front ys x n (omega (arith, lt))

  pub get_last : (xs : List A) (x : A) → slice_get (xs ++ x ∷ []) (length xs) ≡ Some x
  get_last [] x = refl
  get_last (y ∷ ys) x = get_last ys x

  pub get_within : (xs : List A) (n : ℕ) (x : A) → slice_get xs n ≡ Some x → n < length xs
  get_within [] n x e = absurd (none-some x e)
  get_within (y ∷ ys) zero x e = omega arith
  get_within (y ∷ ys) (suc n) x e = let lt : n < length ys = get_within ys n x e in omega arith

  pub not_past : (xs : List A) (n : ℕ) → n < length xs → slice_get xs n ≡ None → ⊥
  not_past [] n lt e = omega (arith, lt)
  not_past (y ∷ ys) zero lt e = none-some y (sym e)
  not_past (y ∷ ys) (suc n) lt e = not_past ys n (omega (arith, lt)) e

  pub take_front : (xs : List A) (x : A) (n : ℕ) → n < length xs → take n (xs ++ x ∷ []) ≡ take n xs
  take_front [] x n lt = absurd (omega (arith, lt))
  take_front (y ∷ ys) x zero lt = refl
  take_front (y ∷ ys) x (suc n) lt = ap (λ (l : List A). y ∷ l) (take_front ys x n (omega (arith, lt)))

  pub take_last : (xs : List A) (x : A) → take (length xs) (xs ++ x ∷ []) ≡ xs
  take_last [] x = refl
  take_last (y ∷ ys) x = ap (λ (l : List A). y ∷ l) (take_last ys x)

pub last_or : (n m : ℕ) → n < suc m → (n < m) ⊎ (n ≡ m)
last_or zero zero lt = inr refl
last_or zero (suc m) lt = inl (omega arith)
last_or (suc n) zero lt = absurd (omega (arith, lt))
last_or (suc n) (suc m) lt =
    elim (last_or n m (omega (arith, lt))) [
      | inl h ↦ inl (omega (arith, h))
      | inr h ↦ inr (ap suc h)
    ]

-- ---- stands

-- what is shown after records is shown before the next one
pub shown_before : (given : Given) (run : ℕ) (rs : List Record) (seen : Shown) → seen.given ≡ given → seen.run ≡ run → IsSoFar rs seen → IsShownBefore given run rs seen
shown_before given run [] seen g n h = tt
shown_before given run (first ∷ others) seen g n h =
    subst (λ (x : Given). IsShownBefore x run (first ∷ others) seen) g (subst (λ (m : ℕ). IsShownBefore seen.given m (first ∷ others) seen) n h)

pub stands_more : (rs : List Record) (seen : Shown) (r : Record) (stands : List (ℕ × ℕ)) → AreStands seen.given seen.run rs stands → length stands ≡ length rs → IsSoFar rs seen
    → AreStands seen.given seen.run (rs ++ r ∷ []) (stands ++ stand_before seen r ∷ [])
stands_more rs seen r stands are many so_far = λ n q e.
    let lt : n < length (rs ++ r ∷ []) = get_within (rs ++ r ∷ []) n q e in
    let lt_suc : n < suc (length rs) = omega (arith, length-append rs (r ∷ []), lt) in
    by n q e (last_or n (length rs) lt_suc)
  where
    by : (n : ℕ) (q : Record) → slice_get (rs ++ r ∷ []) n ≡ Some q → (n < length rs) ⊎ (n ≡ length rs) → IsStand seen.given seen.run (rs ++ r ∷ []) (stands ++ stand_before seen r ∷ []) n q
    by n q e (inl lt) =
        let was : IsStand seen.given seen.run rs stands n q = are n q (sym (get_front rs r n lt) ∙ e) in
        record {
          before = was.before;
          shows = subst (λ (l : List Record). IsShownBefore seen.given seen.run l was.before) (sym (take_front rs r n lt)) was.shows;
          kept = get_front stands (stand_before seen r) n (omega (arith, lt, many)) ∙ was.kept;
        }
    by n q e (inr eq) =
        let here : slice_get (rs ++ r ∷ []) n ≡ Some r = ap (slice_get (rs ++ r ∷ [])) eq ∙ get_last rs r in
        let same : r ≡ q = inner r q (sym here ∙ e) in
        record {
          before = seen;
          shows = subst (λ (l : List Record). IsShownBefore seen.given seen.run l seen) (sym (ap (λ (k : ℕ). take k (rs ++ r ∷ [])) eq ∙ take_last rs r)) (shown_before seen.given seen.run rs seen refl refl so_far);
          kept = ap (slice_get (stands ++ stand_before seen r ∷ [])) (eq ∙ sym many) ∙ get_last stands (stand_before seen r) ∙ ap (λ (p : Record). Some (stand_before seen p)) same;
        }

-- ---- all that is kept

pub kept_more : (h k : Inside) (r : Record) (edits : List Edit) → IsKept h → InRange r → taken h.flow r ≡ Some edits
    → k.journal.file ≡ h.journal.file → k.journal.items ≡ h.journal.items ++ layout r ∷ []
    → k.flow.count ≡ suc h.flow.count → k.flow.seen ≡ shown_after (moment_of r) edits h.flow.seen → k.stands.items ≡ h.stands.items ++ stand_before h.flow.seen r ∷ []
    → IsKept k
kept_more h k r edits kept fits takes file items count seen stands =
    let rs : List Record = records_of h.journal.items in
    let now : records_of k.journal.items ≡ rs ++ r ∷ [] = ap records_of items ∙ records_more h.journal.items r kept.entries kept.ranges fits in
    let entries : k.journal.items ≡ entries_of (rs ++ r ∷ []) = items ∙ ap (λ (l : List (List ℕ)). l ++ layout r ∷ []) kept.entries ∙ sym (entries_push rs r) in
    let longer : length (rs ++ r ∷ []) ≡ suc (length rs) = omega (arith, length-append rs (r ∷ [])) in
    let after : Shown = shown_after (moment_of r) edits h.flow.seen in
    record {
      file = file ∙ kept.file;
      entries = entries ∙ ap entries_of (sym now);
      ranges = subst (AllByRecursion InRange) (sym now) (all_push InRange rs r kept.ranges fits);
      count = count ∙ ap suc kept.count ∙ sym longer ∙ ap length (sym now);
      so_far = subst (λ (l : List Record). IsSoFar l k.flow.seen) (sym now) (subst (IsSoFar (rs ++ r ∷ [])) (sym seen) (so_far_more rs h.flow r edits kept.count kept.so_far takes));
      stands = subst (λ (l : List Record). AreStands k.flow.seen.given k.flow.seen.run l k.stands.items) (sym now)
          (subst (λ (x : Shown). AreStands x.given x.run (rs ++ r ∷ []) k.stands.items) (sym seen)
          (subst (AreStands h.flow.seen.given h.flow.seen.run (rs ++ r ∷ [])) (sym stands) (stands_more rs h.flow.seen r h.stands.items kept.stands kept.many kept.so_far)));
      many = ap length stands ∙ omega (arith, length-append h.stands.items (stand_before h.flow.seen r ∷ []), kept.many, longer) ∙ ap length (sym now);
    }

-- the flow of a journal took less than 100,000,000 records
pub few_records : (items : List (List ℕ)) → items ≡ entries_of (records_of items) → length (front items) < 67_108_864 → length (records_of items) < 100_000_000
few_records items is fits =
    let many : length items ≡ length (records_of items) = ap length is ∙ length-map (records_of items) layout in
    omega (arith, count-le items, fits, many)

-- what holds of each history
pub law_holds : (h : Inside) → IsKept h → HasSizes h.flow.count h.flow.seen → IsSetup h.flow.seen.given → length (front h.journal.items) < 67_108_864 → IsHistory (history_view h)
law_holds h kept sizes setup fits = record {
  ranges = kept.ranges;
  so_far = kept.so_far;
  accepted = setup.accepted;
  tasks = sizes.tasks;
  fits = subst (λ (l : List (List ℕ)). length (front l) < 67_108_864) kept.entries fits;
}
