-- An entry behind a header that may still be to be written.
use Rattle.std.proofs.Common.{◌≡◌, ◌≢◌, inl, ℕ, ◌+◌, ◌<◌, ◌≤◌, Bool, true, false, List, [], length, Err, refl, sym, subst, ap, ◌∙◌, arith}
use Rattle.std.specs.Prelude.{IsErrOf, IsTrue}
use Rattle.cacao_site.specs.DiskCalls.{AllLeft, EachBeat, KeepsDisk, SameRest, StaysAt}
use Rattle.cacao_site.specs.View.{DiskView, SiteView}
use Rattle.cacao_site.proofs.Beats.{each-trans, each-weaken, left-keeps, rest-trans, stays-trans}
use Rattle.run_journal.specs.declared.error.JournalError.{JournalError}
use Rattle.run_journal.specs.declared.error.JournalError.TheVariants as journal
use Rattle.run_journal.specs.JournalView.{JournalView}
use Rattle.run_journal.specs.Layout.{Stands, StandsBeforeOrAfter, entries, front}
use Rattle.run_journal.specs.Durable.{MayAppend, header_bytes, header_calls}

-- whatever an append answers, its file stays
pub file_stays : (e : JournalError) (v w : JournalView) → (IsErrOf {T = Unit {0}} (Err e) journal.Disk → w ≡ record v { broken = true })
    → (IsErrOf {T = Unit {0}} (Err e) journal.Broken → w ≡ v) → ((needed : ℕ) → IsErrOf {T = Unit {0}} (Err e) (journal.Full needed) → w ≡ v)
    → ((place : ℕ) → (IsErrOf {T = Unit {0}} (Err e) (journal.Damaged place) → ⊥) × (IsErrOf {T = Unit {0}} (Err e) journal.Memory → ⊥)) → w.file ≡ v.file
file_stays journal.Disk v w disk broken full other = ap (λ (x : JournalView). x.file) (disk refl)
file_stays (journal.Damaged place) v w disk broken full other = absurd ((other place).0 refl)
file_stays (journal.Full needed) v w disk broken full other = ap (λ (x : JournalView). x.file) (full needed refl)
file_stays journal.Broken v w disk broken full other = ap (λ (x : JournalView). x.file) (broken refl)
file_stays journal.Memory v w disk broken full other = absurd ((other 0).1 refl)

-- and so do its entries
pub items_stay : (e : JournalError) (v w : JournalView) → (IsErrOf {T = Unit {0}} (Err e) journal.Disk → w ≡ record v { broken = true })
    → (IsErrOf {T = Unit {0}} (Err e) journal.Broken → w ≡ v) → ((needed : ℕ) → IsErrOf {T = Unit {0}} (Err e) (journal.Full needed) → w ≡ v)
    → ((place : ℕ) → (IsErrOf {T = Unit {0}} (Err e) (journal.Damaged place) → ⊥) × (IsErrOf {T = Unit {0}} (Err e) journal.Memory → ⊥)) → w.items ≡ v.items
items_stay journal.Disk v w disk broken full other = ap (λ (x : JournalView). x.items) (disk refl)
items_stay (journal.Damaged place) v w disk broken full other = absurd ((other place).0 refl)
items_stay (journal.Full needed) v w disk broken full other = ap (λ (x : JournalView). x.items) (full needed refl)
items_stay journal.Broken v w disk broken full other = ap (λ (x : JournalView). x.items) (broken refl)
items_stay journal.Memory v w disk broken full other = absurd ((other 0).1 refl)

front_none : length (front []) ≡ 8
unfolding front entries
front_none = refl

-- a file with no entry has room for one
pub never_full : (items : List (List ℕ)) (item : List ℕ) → items ≡ [] → length item ≤ 17_829_888 → 67_108_864 < length (front items) + 6 + length item → ⊥
never_full items item none fits past = absurd (omega (arith, ap (λ (l : List (List ℕ)). length (front l)) none, front_none))

-- the header, and then the entry
pub appends_then : (v w : JournalView) (item : List ℕ) (old mid new : SiteView) → v.prepared ≡ false → v.broken ≡ false → w ≡ record v { prepared = true }
    → EachBeat v.file old.disk mid.disk (λ image. Stands image v.items) → ((other : ℕ) → other ≢ v.file → StaysAt old.disk mid.disk other) → SameRest old mid
    → mid.disk.calls ≤ old.disk.calls + 2 → mid.disk.written ≤ old.disk.written + 9
    → (w.broken ≡ false → EachBeat w.file mid.disk new.disk (StandsBeforeOrAfter w.items item)) → ((other : ℕ) → other ≢ w.file → StaysAt mid.disk new.disk other) → SameRest mid new
    → new.disk.calls ≤ mid.disk.calls + 4 → new.disk.written ≤ mid.disk.written + length item + 6
    → MayAppend v item old new
appends_then v w item old mid new unprepared whole is first others rest calls written beats others_then rest_then calls_then written_then =
    let still : w.broken ≡ false = ap (λ (x : JournalView). x.broken) is ∙ whole in
    let each : EachBeat v.file mid.disk new.disk (StandsBeforeOrAfter v.items item) =
    subst (λ (x : JournalView). EachBeat x.file mid.disk new.disk (StandsBeforeOrAfter x.items item)) is (beats still) in
    record {
      file = record {
        each = each-trans (each-weaken first (λ told image stands. inl stands)) each;
        others = λ other ne. stays-trans first.goes_on each.goes_on (others other ne) (subst (λ (x : JournalView). (o : ℕ) → o ≢ x.file → StaysAt mid.disk new.disk o) is others_then other ne);
        rest = rest-trans rest rest_then;
      };
      calls = subst (λ (b : Bool). new.disk.calls ≤ old.disk.calls + (header_calls b + 4)) (sym unprepared) (omega (arith, calls, calls_then));
      written = subst (λ (b : Bool). new.disk.written ≤ old.disk.written + (header_bytes b + (length item + 6))) (sym unprepared) (omega (arith, written, written_then));
    }

-- what leaves the disk leaves the images
pub images_stay : (file : ℕ) (old new : DiskView) (P : List ℕ → Type 0) → KeepsDisk old new → AllLeft file old P → AllLeft file new P
images_stay file old new P keeps here = λ told image left. here (subst IsTrue keeps.goes_on.told told) image (left-keeps keeps file image left)
