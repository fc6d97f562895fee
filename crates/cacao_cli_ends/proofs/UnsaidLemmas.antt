-- The counts that saying lines raises.
use Rattle.std.proofs.Common.{◌≡◌, inl, inr, ◌∙◌, refl, sym, ap, subst, arith, ℕ, List, [], ◌∷◌, ◌++◌, Option, Some, None}
use Rattle.cacao_site.specs.Counts.{next_count}
use Rattle.cacao_site.specs.View.{SiteView}
use Rattle.cacao_cli_words.specs.Words.{Text}
use Rattle.cacao_cli_ends.specs.Ends.{End, status_of, text_of, unsaid, no_memory}
use Rattle.cacao_cli_ends.specs.Lines.{SaysAll, SaysLine, SaysWork, Tells, TellsText}
use Rattle.cacao_cli_ends.proofs.EndLemmas.{no-more}

-- ---- the counts of `say` and of the disk

pub says-counts : (lines : List Text) (old new : SiteView) → SaysAll lines old new → (new.counts.unsaid ≡ old.counts.unsaid) × (new.disk.faults ≡ old.disk.faults)
says-counts [] old new h = (ap (λ (s : SiteView). s.counts.unsaid) h, ap (λ (s : SiteView). s.disk.faults) h)
says-counts (line ∷ lines) old new h = let k = says-counts lines h.0 new h.2 in (k.0 ∙ h.1.unsaid, k.1 ∙ h.1.only.disk.faults)

pub last-disk : (last : End) (text : Option Text) (mid new : SiteView) (answer : ℕ) → TellsText last text mid new answer → new.disk.faults ≡ mid.disk.faults
last-disk last None mid new answer h = ap (λ (s : SiteView). s.disk.faults) h.same
last-disk last (Some text) mid new answer (inl (inl h)) = h.says.only.disk.faults
last-disk last (Some text) mid new answer (inl (inr h)) = h.fails.only.disk.faults
last-disk last (Some text) mid new answer (inr h) = ap (λ (s : SiteView). s.disk.faults) h.same

pub last-said : (last : End) (text : Option Text) (mid new : SiteView) (answer : ℕ) → TellsText last text mid new answer → (answer ≡ 9 → ⊥) → new.counts.unsaid ≡ mid.counts.unsaid
last-said last None mid new answer h unlike = ap (λ (s : SiteView). s.counts.unsaid) h.same
last-said last (Some text) mid new answer (inl (inl h)) unlike = h.says.unsaid
last-said last (Some text) mid new answer (inl (inr h)) unlike = absurd (unlike h.answers)
last-said last (Some text) mid new answer (inr h) unlike = ap (λ (s : SiteView). s.counts.unsaid) h.same

pub last-unsaid : (last : End) (text : Option Text) (mid new : SiteView) (answer : ℕ) → (status_of last ≡ 9 → ⊥) → TellsText last text mid new answer → answer ≡ 9 → new.counts.unsaid ≡ next_count mid.counts.unsaid
last-unsaid last None mid new answer other h e = absurd (other (sym h.answers ∙ e))
last-unsaid last (Some text) mid new answer other (inl (inl h)) e = absurd (other (sym h.answers ∙ e))
last-unsaid last (Some text) mid new answer other (inl (inr h)) e = h.fails.unsaid
last-unsaid last (Some text) mid new answer other (inr h) e = absurd (omega (arith, e, h.answers))

-- ---- the lines of a work, and the last one

pub works-disk : (lines : List Text) (end : End) (old mid : SiteView) (last : End) → SaysWork lines end old mid last → mid.disk.faults ≡ old.disk.faults
works-disk lines end old mid last (inl h) = (says-counts lines old mid h.says).1
works-disk lines end old mid last (inr (inl h)) = h.fails.only.disk.faults ∙ (says-counts h.front old h.between h.says).1
works-disk lines end old mid last (inr (inr h)) = ap (λ (s : SiteView). s.disk.faults) h.same

pub works-said : (lines : List Text) (end : End) (old mid new : SiteView) (last : End) (answer : ℕ) → SaysWork lines end old mid last → Tells last mid new answer → (answer ≡ 9 → ⊥) → new.counts.unsaid ≡ old.counts.unsaid
works-said lines end old mid new last answer (inl h) tells unlike = last-said last (text_of last) mid new answer tells unlike ∙ (says-counts lines old mid h.says).0
works-said lines end old mid new last answer (inr (inl h)) tells unlike = absurd (unlike (no-more last unsaid mid new answer h.ends refl tells).1)
works-said lines end old mid new last answer (inr (inr h)) tells unlike = last-said last (text_of last) mid new answer tells unlike ∙ ap (λ (s : SiteView). s.counts.unsaid) h.same

pub works-unsaid : (lines : List Text) (end : End) (old mid new : SiteView) (last : End) (answer : ℕ) → (status_of end ≡ 9 → ⊥) → SaysWork lines end old mid last → Tells last mid new answer → answer ≡ 9
    → new.counts.unsaid ≡ next_count old.counts.unsaid
works-unsaid lines end old mid new last answer other (inl h) tells e =
    last-unsaid last (text_of last) mid new answer (λ is. other (sym (ap status_of h.ends) ∙ is)) tells e ∙ ap next_count (says-counts lines old mid h.says).0
works-unsaid lines end old mid new last answer other (inr (inl h)) tells e =
    ap (λ (s : SiteView). s.counts.unsaid) (no-more last unsaid mid new answer h.ends refl tells).0 ∙ h.fails.unsaid ∙ ap next_count (says-counts h.front old h.between h.says).0
works-unsaid lines end old mid new last answer other (inr (inr h)) tells e = absurd (omega (arith, e, (no-more last no_memory mid new answer h.ends refl tells).1))

-- ---- lines one after another

pub says-more : (lines : List Text) (line : Text) (old mid new : SiteView) → SaysAll lines old mid → SaysLine line mid new → SaysAll (lines ++ line ∷ []) old new
says-more [] line old mid new h one = (new, subst (λ (s : SiteView). SaysLine line s new) h one, refl)
says-more (first ∷ lines) line old mid new h one = (h.0, h.1, says-more lines line h.0 mid new h.2 one)
