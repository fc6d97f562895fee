-- What becomes of a call that tells of a run of playbooks before its first record.
use Rattle.std.proofs.Common.{◌≡◌, ◌⊎◌, ◌∙◌, inl, inr, refl, ap, arith, ℕ, ◌+◌, ◌<◌, ◌≤◌, Bool, Bor, List, [], ◌∷◌, length, length-append, append-nil, Option, Some, None, Result, Ok, Err}
use Rattle.std.specs.Prelude.{is_some, if◌then◌else◌}
use Rattle.serde_json.specs.Data.{Data}
use Rattle.cacao_site.specs.Counts.{next_count}
use Rattle.cacao_cli_ends.specs.Comes.{IsOneOf}
use Rattle.cacao_cli_ends.specs.Ends.{End, no_memory, status_of}
use Rattle.cacao_cli_ends.specs.Files.{NamedText, ShelfCall}
use Rattle.cacao_cli_ends.specs.Work.{trees_of}
use Rattle.cacao_cli_ends.proofs.LineLemmas.{IsCutOff}
use Rattle.cacao_view_preflight.specs.Preflights.{Preflights, Reads}
use Rattle.cacao_view_words.specs.Asked.{maybe_text}
use Rattle.cacao_view_words.specs.Texts.{Text}
use Rattle.cacao_view.specs.BookReading.{ReadsBooks, book_files}
use Rattle.cacao_view.specs.BookStatuses.{BookStatus}
use Rattle.cacao_view.specs.Flying.{FliesBooks, Foresees, bound_names}
use Rattle.cacao_view.proofs.BookLemmas.{books-failed, books-listed, books-status, books-steady, books_list, texts_list}
use Rattle.cacao_view.proofs.BookReadLemmas.{books-there, books-wanted}
use Rattle.cacao_view.proofs.DrawLemmas.{treeless-five}

-- the statuses of what the texts come to
flight-own : (bound : Bool) (texts : List NamedText) (lines : List Text) (end : End) → Preflights bound texts lines end → IsOneOf (status_of end) texts_list
flight-own bound texts lines end (inr k) = inr (inr (inr (inl (ap status_of k.1))))
flight-own bound texts lines end (inl h) = go (trees_of texts) refl h
  where
    go : (r : Result (List Data) End) → trees_of texts ≡ r → Reads bound texts r lines end → IsOneOf (status_of end) texts_list
    go (Ok roots) is (inl k) = inr (inl (ap status_of k.ends))
    go (Ok roots) is (inr (inl k)) = inr (inl (ap status_of k.ends))
    go (Ok roots) is (inr (inr k)) = inl (ap status_of k.ends)
    go (Err why) is k = inr (inr (inl (ap status_of k.1 ∙ treeless-five texts why is)))

flight-settled : (bind : Option Text) (texts : List NamedText) (lines : List Text) (end : End) → Preflights (is_some bind) texts lines end → Foresees bind texts lines end ⊎ (end ≡ no_memory)
flight-settled bind texts lines end (inl h) = inl h
flight-settled bind texts lines end (inr k) = inr k.1

module _ (bind : Option Text) (books : List Text) (shelf : ShelfCall) (lines : List Text) (end : End) (d : FliesBooks bind books shelf lines end) where
  abbrev names : List Text
  names = bound_names bind books

  own : (texts : List NamedText) → Preflights (is_some bind) texts lines end → IsOneOf (status_of end) texts_list
  own texts h = flight-own (is_some bind) texts lines end h

  pub flies-listed : IsOneOf (status_of end) books_list
  flies-listed = books-listed (Preflights (is_some bind)) books names shelf lines end d own

  pub flies-failed : status_of end ≡ 3 → shelf.after ≡ next_count shelf.before
  flies-failed e = books-failed (Preflights (is_some bind)) books names shelf lines end d own e

  pub flies-steady : (status_of end ≡ 3 → ⊥) → shelf.after ≡ shelf.before
  flies-steady other = books-steady (Preflights (is_some bind)) books names shelf lines end d own other

  pub flies-status : (n : ℕ) → (n ≡ status_of end) ⊎ IsCutOff n → BookStatus (Foresees bind) books names shelf.told n
  flies-status n is = books-status (Preflights (is_some bind)) books names shelf lines end d own (Foresees bind) (λ texts h. flight-settled bind texts lines end h) n is

-- ---- the names of the files

pub bound-is : (bind : Option (Bor Text)) → is_some (maybe_text bind) ≡ is_some bind
bound-is None = refl
bound-is (Some name) = refl

pub names-length : (bind : Option (Bor Text)) (books : List Text) → length (bound_names (maybe_text bind) books) ≡ length books + (if is_some bind then 1 else 0)
names-length None books = ap length (append-nil books) ∙ omega arith
names-length (Some name) books = length-append books (name.now ∷ [])

-- ---- one name at least

pub flight-wanted : (Tells : List NamedText → List Text → End → Type 0) (books names : List Text) (shelf : ShelfCall) (lines : List Text) (end : End) → 0 < length names → length books ≤ 16
    → shelf.reads_after ≡ shelf.reads_before → shelf.after ≡ shelf.before → lines ≡ [] → end ≡ no_memory → ReadsBooks Tells books names shelf lines end
flight-wanted Tells books [] shelf lines end lt = absurd (omega (arith, lt))
flight-wanted Tells books (name ∷ names) shelf lines end lt = books-wanted Tells books name names shelf lines end

pub flight-there : (books names : List Text) → 0 < length names → length books ≤ 16 → book_files books names ≡ [] → ⊥
flight-there books [] lt = absurd (omega (arith, lt))
flight-there books (name ∷ names) lt = books-there books name names
