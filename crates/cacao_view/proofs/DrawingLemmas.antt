-- How playbooks are drawn whose texts were read.
use Rattle.std.proofs.Common.{◌≡◌, ◌⊎◌, ◌∙◌, inl, inr, refl, sym, ap, subst, arith, List, [], Option, Some, None, Result, Ok, Err}
use Rattle.std.specs.Prelude.{IfSome, slice_get}
use Rattle.serde_json.specs.Data.{Data}
use Rattle.cacao_book_shape.specs.Shape.{IsWellShaped, KeepsShape, ShapeDemand}
use Rattle.cacao_check.specs.FirstBreak.{AreWellShaped, IsAccepted, of_shape}
use Rattle.cacao_check.specs.declared.breaks.Mode.{Mode}
use Rattle.cacao_check.specs.declared.breaks.Mode.TheVariants.{Read as Reading}
use Rattle.cacao_cli_ends.specs.Ends.{End, accepted, no_memory, status_of}
use Rattle.cacao_cli_ends.specs.Files.{NamedText}
use Rattle.cacao_cli_ends.specs.Work.{trees_of}
use Rattle.cacao_cli_looks.specs.Command.{IsJudgement}
use Rattle.cacao_view_words.specs.Texts.{Text}
use Rattle.cacao_view.specs.Drawing.{DrawsTexts, DrawsTrees, PicturesRead}

-- ---- the trees

pub draws-treeless : (texts : List NamedText) (lines : List Text) (end : End) → lines ≡ [] → (trees_of texts ≡ Err end) ⊎ (end ≡ no_memory) → DrawsTexts texts lines end
draws-treeless texts lines end none (inl e) = inl (subst (λ (r : Result (List Data) End). PicturesRead r lines end) (sym e) (none, refl))
draws-treeless texts lines end none (inr m) = inr (none, m)

pub draws-drawn : (texts : List NamedText) (trees : List Data) (lines : List Text) (end : End) → trees_of texts ≡ Ok trees → DrawsTrees trees lines end → DrawsTexts texts lines end
draws-drawn texts trees lines end e (inl h) = inl (subst (λ (r : Result (List Data) End). PicturesRead r lines end) (sym e) h)
draws-drawn texts trees lines end e (inr m) = inr m

-- ---- the judgement

pub judged-accepted : (trees : List Data) (end : End) → IsJudgement trees Reading end → end ≡ accepted → IsAccepted trees Reading
judged-accepted trees end (inl h) e = h.0
judged-accepted trees end (inr (inl h)) e = absurd (let k : 1 ≡ 0 = sym (ap status_of h.2) ∙ ap status_of e in omega (arith, k))
judged-accepted trees end (inr (inr m)) e = absurd (let k : 10 ≡ 0 = sym (ap status_of m) ∙ ap status_of e in omega (arith, k))

pub judged-other : (trees : List Data) (lines : List Text) (end told : End) → IsJudgement trees Reading end → (end ≡ accepted → ⊥) → lines ≡ [] → told ≡ end → DrawsTrees trees lines told
judged-other trees lines end told (inl h) other none is = absurd (other h.1)
judged-other trees lines end told (inr (inl h)) other none is = inl (inr (h.0, h.1, none, is ∙ h.2))
judged-other trees lines end told (inr (inr m)) other none is = inr (none, is ∙ m)

-- playbooks that are accepted break no rule of shape
pub shaped : (trees : List Data) (mode : Mode) → IsAccepted trees mode → AreWellShaped trees
shaped trees mode kept n = go (slice_get trees n) (λ demand. kept (of_shape n demand))
  where
    go : (o : Option Data) → ((demand : ShapeDemand) → IfSome o (λ t. KeepsShape t demand)) → IfSome o IsWellShaped
    go None h = tt
    go (Some t) h = h
