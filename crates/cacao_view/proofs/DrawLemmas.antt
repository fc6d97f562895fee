-- What becomes of a call that draws playbooks.
use Rattle.std.proofs.Common.{◌≡◌, ◌⊎◌, ◌∙◌, inl, inr, refl, sym, ap, ℕ, List, Result, Ok, Err}
use Rattle.serde_json.specs.Data.{Data}
use Rattle.cacao_site.specs.Counts.{next_count}
use Rattle.cacao_cli_ends.specs.Comes.{IsOneOf}
use Rattle.cacao_cli_ends.specs.Ends.{End, no_memory, not_readable, status_of}
use Rattle.cacao_cli_ends.specs.Files.{NamedText, ShelfCall}
use Rattle.cacao_cli_ends.specs.Work.{trees_of}
use Rattle.cacao_cli_ends.proofs.LineLemmas.{IsCutOff}
use Rattle.cacao_cli_ends.proofs.TreeCases.{TreesCase, all_trees, one_treeless, trees_case}
use Rattle.cacao_view_words.specs.Texts.{Text}
use Rattle.cacao_view.specs.BookStatuses.{BookStatus}
use Rattle.cacao_view.specs.Drawing.{Draws, DrawsTexts, Pictures, PicturesRead}
use Rattle.cacao_view.proofs.BookLemmas.{books-failed, books-listed, books-status, books-steady, books_list, texts_list}

-- a text without a tree
pub treeless-five : (texts : List NamedText) (why : End) → trees_of texts ≡ Err why → status_of why ≡ 5
treeless-five texts why e = go (trees_case texts)
  where
    go : TreesCase texts → status_of why ≡ 5
    go (all_trees roots r is) = absurd (let no : Ok roots ≡ Err why = sym is ∙ e in cc)
    go (one_treeless name reason r is) = let same : why ≡ not_readable name reason = let both : Err why ≡ Err (not_readable name reason) = sym e ∙ is in cc in ap status_of same

-- the statuses of what the texts come to
draws-own : (texts : List NamedText) (lines : List Text) (end : End) → DrawsTexts texts lines end → IsOneOf (status_of end) texts_list
draws-own texts lines end (inr m) = inr (inr (inr (inl (ap status_of m.1))))
draws-own texts lines end (inl h) = go (trees_of texts) refl h
  where
    go : (r : Result (List Data) End) → trees_of texts ≡ r → PicturesRead r lines end → IsOneOf (status_of end) texts_list
    go (Ok trees) is (inl k) = inl (ap status_of k.2)
    go (Ok trees) is (inr k) = inr (inl (ap status_of k.3))
    go (Err why) is k = inr (inr (inl (ap status_of k.1 ∙ treeless-five texts why is)))

settled : (texts : List NamedText) (lines : List Text) (end : End) → DrawsTexts texts lines end → Pictures texts lines end ⊎ (end ≡ no_memory)
settled texts lines end (inl h) = inl h
settled texts lines end (inr m) = inr m.1

module _ (books : List Text) (shelf : ShelfCall) (lines : List Text) (end : End) (d : Draws books shelf lines end) where
  own : (texts : List NamedText) → DrawsTexts texts lines end → IsOneOf (status_of end) texts_list
  own texts h = draws-own texts lines end h

  pub draws-listed : IsOneOf (status_of end) books_list
  draws-listed = books-listed DrawsTexts books books shelf lines end d own

  pub draws-failed : status_of end ≡ 3 → shelf.after ≡ next_count shelf.before
  draws-failed e = books-failed DrawsTexts books books shelf lines end d own e

  pub draws-steady : (status_of end ≡ 3 → ⊥) → shelf.after ≡ shelf.before
  draws-steady other = books-steady DrawsTexts books books shelf lines end d own other

  pub draws-status : (n : ℕ) → (n ≡ status_of end) ⊎ IsCutOff n → BookStatus Pictures books books shelf.told n
  draws-status n is = books-status DrawsTexts books books shelf lines end d own Pictures (λ texts h. settled texts lines end h) n is
