-- Records of a file that were not taken.
use Rattle.std.proofs.Common.{◌≡◌, inl, inr, ℕ, zero, suc, ◌+◌, ◌<◌, ◌≤◌, List, [], ◌∷◌, ◌++◌, length, take, drop, Option, Some, None, slice_get, refl, sym, subst, ap, ap₂, ◌∙◌, arith, length-take-le, drop-cons}
use Rattle.std.specs.Prelude.{slice_index_or}
use Rattle.std.proofs.lemmas.List.{length-map, take-append-drop, take_more}
use Rattle.std.proofs.lemmas.Option.{none-some}
use Rattle.run_journal.specs.Layout.{front}
use Rattle.run_journal.proofs.Headers.{count-le}
use Rattle.run_records.specs.Layout.{layout}
use Rattle.run_records.specs.Ranges.{BeginsInRange, InRange}
use Rattle.run_records.specs.Reading.{record_of}
use Rattle.run_records.specs.declared.record.Record.{Record}
use Rattle.run_records.specs.declared.record.Record.TheVariants as entry
use Rattle.flow_core_rules.specs.Changes.{change}
use Rattle.flow_core_rules.specs.Edits.{Edit}
use Rattle.flow_core_rules.specs.Givens.{Given}
use Rattle.flow_core_rules.specs.State.{Shown}
use Rattle.flow_core_rules.proofs.RunLemmas.{some_inner}
use Rattle.flow_core.specs.Views.{View, blank_shown, most_tasks, taken}
pub use Rattle.flow_core.proofs.TakenLemmas.{first_passes_none, limit_is}
use Rattle.flow_engine_history.specs.Histories.{IsShownAfter, IsSoFar}
use Rattle.flow_engine_history.specs.Openings.{GoesOnWith, RefusesEntries}
use Rattle.flow_engine_history.specs.Replays.{CannotFollow, IsBeginOf, IsReplayed, MakesTooMany, RefusesBegin, RefusesFirst, RefusesMoment, RefusesNext, RefusesRecord, RefusesReplay, Stands, TakesEntry}
use Rattle.flow_engine_history.specs.declared.error.EngineError.{EngineError}
use Rattle.flow_engine_history.specs.declared.error.EngineError.TheVariants as refused
use Rattle.flow_engine_history.proofs.ReplayLemmas.{replayed_more, replayed_none, taken_later}

-- ---- the first record

-- why the Begin of this run is not taken
pub first_refused : (v : View) (r : Record) (given : Given) (run : ℕ) (error : EngineError) → v.count ≡ 0 → v.seen ≡ blank_shown given run → RefusesRecord v r error → RefusesMoment r error
first_refused v r given run (refused.Limit what) c blank h = absurd (first_passes_none v r given run c blank h.1)
first_refused v r given run refused.Memory c blank h = tt
first_refused v r given run refused.Disk c blank h = h
first_refused v r given run refused.Broken c blank h = h
first_refused v r given run (refused.Damaged place) c blank h = absurd h
first_refused v r given run (refused.OtherRun held asked) c blank h = h
first_refused v r given run (refused.OtherBook index) c blank h = h

-- a Begin in range has a text, and so there is a playbook
pub some_books : (given : Given) (run : ℕ) (r : Record) → InRange r → IsBeginOf given run r → length given.texts ≡ length given.books → 1 ≤ length given.books
some_books given run r i b e =
    let fits : BeginsInRange run b.moment given.texts given.bind = subst InRange b.is i in
    omega (arith, fits.some_book, e)

-- ---- refusals of the first entry

pub refused_begin : (given : Given) (run : ℕ) (item : List ℕ) (r : Record) (error : EngineError) → record_of item ≡ Some r → RefusesBegin given run r error
    → RefusesFirst given run item error
refused_begin given run item r (refused.Damaged place) e h = λ others.
    inl (record { first = item; others = others; are = refl; no_begin = λ held moment books bind g. h.1 held moment books bind (some_inner r (entry.Begin held moment books bind) (sym e ∙ g)) }, h.0)
refused_begin given run item r (refused.OtherRun held asked) e h = λ others.
    let b = h.0 in
    ((b.0, b.1, b.2, record { first = item; others = others; are = refl; reads = e ∙ ap (λ (q : Record). Some q) b.3 }), h.1, h.2)
refused_begin given run item r (refused.OtherBook index) e h = λ others.
    (h.0, h.1, h.2, record { first = item; others = others; are = refl; reads = e ∙ ap (λ (q : Record). Some q) h.3 }, h.4)
refused_begin given run item r (refused.Limit what) e h = absurd h
refused_begin given run item r refused.Disk e h = absurd h
refused_begin given run item r refused.Broken e h = absurd h
refused_begin given run item r refused.Memory e h = absurd h

pub refused_first : (given : Given) (run : ℕ) (item : List ℕ) (others items : List (List ℕ)) (error : EngineError) → items ≡ item ∷ others → RefusesFirst given run item error
    → RefusesReplay given run items error
refused_first given run item others items (refused.Damaged place) e h = subst (λ (l : List (List ℕ)). RefusesEntries given run l (refused.Damaged place)) (sym e) (h others)
refused_first given run item others items (refused.OtherRun held asked) e h = subst (λ (l : List (List ℕ)). RefusesEntries given run l (refused.OtherRun held asked)) (sym e) (h others)
refused_first given run item others items (refused.OtherBook index) e h = subst (λ (l : List (List ℕ)). RefusesEntries given run l (refused.OtherBook index)) (sym e) (h others)
refused_first given run item others items (refused.Limit what) e h = subst (λ (l : List (List ℕ)). RefusesEntries given run l (refused.Limit what)) (sym e) (h others)
refused_first given run item others items refused.Disk e h = h others
refused_first given run item others items refused.Broken e h = h others
refused_first given run item others items refused.Memory e h = tt

-- ---- refusals of a later entry

shown_so_far : (given : Given) (run : ℕ) (rs : List Record) (seen : Shown) → 1 ≤ length rs → seen.given ≡ given → seen.run ≡ run → IsSoFar rs seen → IsShownAfter given run rs seen
shown_so_far given run [] seen some p q h = absurd (omega (arith, some))
shown_so_far given run (first ∷ others) seen some p q h =
    subst (λ (k : ℕ). IsShownAfter given k (first ∷ others) seen) q (subst (λ (g : Given). IsShownAfter g seen.run (first ∷ others) seen) p h)

pub goes_on_with : (given : Given) (run : ℕ) (items : List (List ℕ)) (v : View) (stands : Stands) (n : ℕ) (item : List ℕ) → (h : IsReplayed given run (take n items) v stands)
    → 1 ≤ v.count → n < length items → item ≡ slice_index_or items n [] → length v.seen.lists.tasks ≤ most_tasks → GoesOnWith given run items h.records v.seen item
goes_on_with given run items v stands n item h some within here few = record {
  others = drop (suc n) items;
  are = sym (take-append-drop n items)
      ∙ ap₂ (λ (l r : List (List ℕ)). l ++ r) h.are (drop-cons items n [] within ∙ ap (λ (e : List ℕ). e ∷ drop (suc n) items) (sym here));
  ranges = h.ranges;
  shows = shown_so_far given run h.records v.seen (omega (arith, h.count, some)) h.given_is h.run_is h.so_far;
  tasks = few;
}

later_taken : (v : View) (r : Record) (o : Option (List Edit)) (n : ℕ) → v.count ≡ n → 1 ≤ n → taken v r ≡ o → change v.seen r ≡ o
later_taken v r o zero c some e = absurd (omega (arith, some))
later_taken v r o (suc n) c some e = taken_later v r o n c e

pub breaks_at : (given : Given) (run : ℕ) (items : List (List ℕ)) (v : View) (stands : Stands) (n place : ℕ) (item : List ℕ) → IsReplayed given run (take n items) v stands
    → 1 ≤ v.count → n < length items → item ≡ slice_index_or items n [] → length v.seen.lists.tasks ≤ most_tasks → CannotFollow v item
    → place ≡ length (front (take n items)) → RefusesReplay given run items (refused.Damaged place)
breaks_at given run items v stands n place item h some within here few bad at = inr (inr (record {
  records = h.records;
  seen = v.seen;
  next = item;
  goes_on = goes_on_with given run items v stands n item h some within here few;
  bad = λ r e. later_taken v r None v.count refl some (bad r e);
  at = at ∙ ap (λ (l : List (List ℕ)). length (front l)) h.are;
}))

pub refused_at : (given : Given) (run : ℕ) (items : List (List ℕ)) (v : View) (stands : Stands) (n : ℕ) (item : List ℕ) (error : EngineError) → IsReplayed given run (take n items) v stands
    → 1 ≤ v.count → n < length items → item ≡ slice_index_or items n [] → length v.seen.lists.tasks ≤ most_tasks → RefusesNext v item error
    → RefusesReplay given run items error
refused_at given run items v stands n item (refused.Limit what) h some within here few next =
    let r : Record = next.1.0 in
    let m : MakesTooMany v r = next.1.2 in (
      next.0,
      record {
        records = h.records;
        seen = v.seen;
        next = item;
        goes_on = goes_on_with given run items v stands n item h some within here few;
        r = r;
        edits = m.edits;
        reads = next.1.1;
        takes = later_taken v r (Some m.edits) v.count refl some m.takes;
        many = m.many;
      },
    )
refused_at given run items v stands n item refused.Memory h some within here few next = tt
refused_at given run items v stands n item refused.Disk h some within here few next = absurd next
refused_at given run items v stands n item refused.Broken h some within here few next = absurd next
refused_at given run items v stands n item (refused.Damaged place) h some within here few next = absurd next
refused_at given run items v stands n item (refused.OtherRun held asked) h some within here few next = absurd next
refused_at given run items v stands n item (refused.OtherBook index) h some within here few next = absurd next

-- ---- texts

same_at : (xs ys : List (List ℕ)) → ((k : ℕ) → k < length xs → slice_get xs k ≡ slice_get ys k) → length ys ≤ length xs → xs ≡ ys
same_at [] [] same le = refl
same_at [] (y ∷ ys) same le = absurd (omega (arith, le))
same_at (x ∷ xs) [] same le = absurd (none-some x (sym (same 0 (omega arith))))
same_at (x ∷ xs) (y ∷ ys) same le =
    ap₂ (λ (z : List ℕ) (l : List (List ℕ)). z ∷ l) (some_inner x y (same 0 (omega arith)))
    (same_at xs ys (λ k lt. same (suc k) (omega (arith, lt))) (omega (arith, le)))

pub same_texts : (held asked : List (List ℕ)) (n : ℕ) → n ≡ length held → ((k : ℕ) → k < n → slice_get held k ≡ slice_get asked k) → length asked ≤ length held → held ≡ asked
same_texts held asked n e same le = same_at held asked (λ k lt. same k (omega (arith, lt, e))) le

-- ---- how many entries there are

pub count_is : (given : Given) (run : ℕ) (items : List (List ℕ)) (v : View) (stands : Stands) (n : ℕ) → IsReplayed given run (take n items) v stands → n ≤ length items → v.count ≡ n
count_is given run items v stands n h le =
    let e : length (take n items) ≡ length h.records = ap length h.are ∙ length-map h.records layout in
    omega (arith, h.count, e, length-take-le n items le)

pub few_entries : (items : List (List ℕ)) → length (front items) < 67_108_864 → length items < 100_000_000
few_entries items fits = omega (arith, count-le items, fits)

-- ---- entries by place

pub take_entry : (items : List (List ℕ)) (n : ℕ) (item : List ℕ) → n < length items → item ≡ slice_index_or items n [] → take n items ++ item ∷ [] ≡ take (n + 1) items
take_entry items n item lt e = ap (λ (x : List ℕ). take n items ++ x ∷ []) e ∙ sym (take_more items n [] lt)

pub first_entry : (items : List (List ℕ)) (item : List ℕ) → 0 < length items → item ≡ slice_index_or items 0 [] → items ≡ item ∷ drop 1 items
first_entry [] item some e = absurd (omega (arith, some))
first_entry (x ∷ items) item some e = ap (λ (y : List ℕ). y ∷ items) (sym e)

one_entry : (items : List (List ℕ)) (item : List ℕ) → 0 < length items → item ≡ slice_index_or items 0 [] → item ∷ [] ≡ take 1 items
one_entry [] item some e = absurd (omega (arith, some))
one_entry (x ∷ items) item some e = ap (λ (y : List ℕ). y ∷ []) e

-- the Begin was taken
pub first_replayed : (given : Given) (run : ℕ) (items : List (List ℕ)) (v w : View) (kept more : Stands) (item : List ℕ) → v.count ≡ 0 → v.seen ≡ blank_shown given run → kept ≡ []
    → 0 < length items → item ≡ slice_index_or items 0 [] → TakesEntry v kept item w more → IsReplayed given run (take 1 items) w more
first_replayed given run items v w kept more item c blank none some e t =
    let before : IsReplayed given run [] v kept = subst (λ (l : Stands). IsReplayed given run [] v l) (sym none) (replayed_none given run v c blank) in
    subst (λ (l : List (List ℕ)). IsReplayed given run l w more) (one_entry items item some e) (replayed_more given run [] v w kept more item before t)

-- the same, by what the flow shows
pub replayed_by_seen : (given : Given) (run : ℕ) (items : List (List ℕ)) (w : View) (more : Stands) → IsReplayed given run items w more
    → IsReplayed w.seen.given w.seen.run items w more
replayed_by_seen given run items w more h =
    subst (λ (k : ℕ). IsReplayed w.seen.given k items w more) (sym h.run_is) (subst (λ (g : Given). IsReplayed g run items w more) (sym h.given_is) h)
