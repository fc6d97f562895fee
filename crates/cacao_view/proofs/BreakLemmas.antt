-- What becomes of a call that tells of the first break of playbooks.
use Rattle.std.proofs.Common.{◌≡◌, ◌⊎◌, ◌∙◌, inl, inr, refl, ap, ℕ, List, Result, Ok, Err}
use Rattle.serde_json.specs.Data.{Data}
use Rattle.cacao_site.specs.Counts.{next_count}
use Rattle.cacao_cli_ends.specs.Comes.{IsOneOf}
use Rattle.cacao_cli_ends.specs.Ends.{End, no_memory, status_of}
use Rattle.cacao_cli_ends.specs.Files.{NamedText, ShelfCall}
use Rattle.cacao_cli_ends.specs.Work.{trees_of}
use Rattle.cacao_cli_ends.proofs.LineLemmas.{IsCutOff}
use Rattle.cacao_view_explain.specs.Explains.{ExplainsOf}
use Rattle.cacao_view_words.specs.Texts.{Text}
use Rattle.cacao_view.specs.BookStatuses.{BookStatus}
use Rattle.cacao_view.specs.Explaining.{ChecksRead, ChecksTo, ExplainsBooks, ExplainsTexts}
use Rattle.cacao_view.proofs.BookLemmas.{books-failed, books-listed, books-status, books-steady, books_list, texts_list}
use Rattle.cacao_view.proofs.DrawLemmas.{treeless-five}

-- the statuses of what the texts come to
break-own : (texts : List NamedText) (lines : List Text) (end : End) → ExplainsTexts texts lines end → IsOneOf (status_of end) texts_list
break-own texts lines end h = go (trees_of texts) refl h.0
  where
    go : (r : Result (List Data) End) → trees_of texts ≡ r → ExplainsOf r lines end → IsOneOf (status_of end) texts_list
    go (Ok roots) is (inl k) = inl (ap status_of k.2)
    go (Ok roots) is (inr (inl k)) = inr (inl (ap status_of k.ends))
    go (Ok roots) is (inr (inr k)) = inr (inr (inr (inl (ap status_of k.1))))
    go (Err why) is (inl e) = inr (inr (inl (ap status_of e ∙ treeless-five texts why is)))
    go (Err why) is (inr k) = inr (inr (inr (inl (ap status_of k.1))))

-- the end is that of `cacao check`, or memory was wanted
break-settled : (texts : List NamedText) (lines : List Text) (end : End) → ExplainsTexts texts lines end → ChecksTo texts lines end ⊎ (end ≡ no_memory)
break-settled texts lines end h = go (trees_of texts) h.0
  where
    go : (r : Result (List Data) End) → ExplainsOf r lines end → ChecksRead r end ⊎ (end ≡ no_memory)
    go (Ok roots) (inl k) = inl (inl (k.0, k.2))
    go (Ok roots) (inr (inl k)) = inl (inr (k.broken, k.first, k.ends))
    go (Ok roots) (inr (inr k)) = inr k.1
    go (Err why) (inl e) = inl e
    go (Err why) (inr k) = inr k.1

module _ (books : List Text) (shelf : ShelfCall) (lines : List Text) (end : End) (d : ExplainsBooks books shelf lines end) where
  own : (texts : List NamedText) → ExplainsTexts texts lines end → IsOneOf (status_of end) texts_list
  own texts h = break-own texts lines end h

  pub breaks-listed : IsOneOf (status_of end) books_list
  breaks-listed = books-listed ExplainsTexts books books shelf lines end d own

  pub breaks-failed : status_of end ≡ 3 → shelf.after ≡ next_count shelf.before
  breaks-failed e = books-failed ExplainsTexts books books shelf lines end d own e

  pub breaks-steady : (status_of end ≡ 3 → ⊥) → shelf.after ≡ shelf.before
  breaks-steady other = books-steady ExplainsTexts books books shelf lines end d own other

  pub breaks-status : (n : ℕ) → (n ≡ status_of end) ⊎ IsCutOff n → BookStatus ChecksTo books books shelf.told n
  breaks-status n is = books-status ExplainsTexts books books shelf lines end d own ChecksTo (λ texts h. break-settled texts lines end h) n is
