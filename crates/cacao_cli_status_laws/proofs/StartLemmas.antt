-- A session, from the texts that were read.
use Rattle.std.proofs.Common.{◌≡◌, ◌⊎◌, inl, inr, ◌∙◌, refl, sym, ap, subst, arith, ℕ, Option, Some, None}
use Rattle.cacao_site.specs.Counts.{Rose, next_count}
use Rattle.cacao_site.specs.View.{SiteView}
use Rattle.flow_laws.specs.Held.{plain}
use Rattle.flow_laws.proofs.Calls.{since_start}
use Rattle.flow_world.specs.Sessions.{IsStart, KeepsAgreement}
use Rattle.cacao_cli_ends.specs.Ends.{End, status_of, text_of, unsaid}
use Rattle.cacao_cli_status_laws.specs.Ended.{Performs}
use Rattle.cacao_cli_status_laws.specs.Exact.{HasStatus}
use Rattle.cacao_cli_words.specs.Words.{Text}
use Rattle.cacao_cli_ends.specs.Lines.{SaysAtMostALine, Tells, TellsText}
use Rattle.cacao_cli_ends.specs.Work.{Start, starts}
use Rattle.cacao_cli_ends.proofs.EndCases.{eight-is, nine-or-not}
use Rattle.cacao_cli_ends.proofs.EndLemmas.{no-more}
use Rattle.cacao_cli_session_laws.proofs.HoldLemmas.{holds-failed, holds-said, holds-unsaid}
use Rattle.cacao_cli_ends.proofs.LineLemmas.{IsCutOff, tells-status}
use Rattle.cacao_cli_ends.proofs.UnsaidLemmas.{last-disk, last-said, last-unsaid}

next-rose : (n m k : ℕ) → m ≡ n → k ≡ next_count m → Rose n k
next-rose n m k e f = omega (arith, e, f)

rose-same : (n m k : ℕ) → Rose n m → k ≡ m → Rose n k
rose-same n m k h e = omega (arith, h, e)

-- a site that a session began on agrees with itself
agrees-still : (site : SiteView) (run : ℕ) → IsStart site run → KeepsAgreement site site
agrees-still site run h = since_start plain site h.told h.start

-- the last line is one at most
line-at-last : (last : End) (text : Option Text) (mid new : SiteView) (answer : ℕ) → TellsText last text mid new answer → SaysAtMostALine mid new
line-at-last last None mid new answer h = inl h.same
line-at-last last (Some text) mid new answer (inl (inl h)) = inr h.says.only
line-at-last last (Some text) mid new answer (inl (inr h)) = inr h.fails.only
line-at-last last (Some text) mid new answer (inr h) = inl h.same

pub tells-line : (last : End) (mid new : SiteView) (answer : ℕ) → Tells last mid new answer → SaysAtMostALine mid new
tells-line last mid new answer h = line-at-last last (text_of last) mid new answer h

module _ (start : Start) (old mid new : SiteView) (last : End) (answer : ℕ) where
  -- ---- lines that could not be said

  still-said : mid ≡ old → Tells last mid new answer → (answer ≡ 9 → ⊥) → new.counts.unsaid ≡ old.counts.unsaid
  still-said e tells unlike = last-said last (text_of last) mid new answer tells unlike ∙ ap (λ (s : SiteView). s.counts.unsaid) e

  pub start-said : Performs (starts start) old mid last → Tells last mid new answer → (answer ≡ 9 → ⊥) → new.counts.unsaid ≡ old.counts.unsaid
  start-said (inl h) tells unlike = still-said h.same tells unlike
  start-said (inr (inl h)) tells unlike = still-said h.same tells unlike
  start-said (inr (inr (inl h))) tells unlike = still-said h.same tells unlike
  start-said (inr (inr (inr (inl h)))) tells unlike = go (holds-said h.given start.run start.most h.answers old mid last h.holds)
    where
      go : (mid.counts.unsaid ≡ old.counts.unsaid) ⊎ (last ≡ unsaid) → new.counts.unsaid ≡ old.counts.unsaid
      go (inl e) = last-said last (text_of last) mid new answer tells unlike ∙ e
      go (inr is) = absurd (unlike (no-more last unsaid mid new answer is refl tells).1)
  start-said (inr (inr (inr (inr h)))) tells unlike = still-said h.same tells unlike

  -- the last line alone
  still-unsaid : mid.counts.unsaid ≡ old.counts.unsaid → (status_of last ≡ 9 → ⊥) → Tells last mid new answer → answer ≡ 9 → Rose old.counts.unsaid new.counts.unsaid
  still-unsaid e other tells is = next-rose old.counts.unsaid mid.counts.unsaid new.counts.unsaid e (last-unsaid last (text_of last) mid new answer other tells is)

  other-end : (end : End) → last ≡ end → (status_of end ≡ 9 → ⊥) → status_of last ≡ 9 → ⊥
  other-end end is other e = other (sym (ap status_of is) ∙ e)

  pub start-unsaid : Performs (starts start) old mid last → Tells last mid new answer → answer ≡ 9 → Rose old.counts.unsaid new.counts.unsaid
  start-unsaid (inl h) tells e = still-unsaid (ap (λ (s : SiteView). s.counts.unsaid) h.same) (other-end _ h.ends (λ f. omega (arith, f))) tells e
  start-unsaid (inr (inl h)) tells e = still-unsaid (ap (λ (s : SiteView). s.counts.unsaid) h.same) (other-end _ h.ends (λ f. omega (arith, f))) tells e
  start-unsaid (inr (inr (inl h))) tells e = still-unsaid (ap (λ (s : SiteView). s.counts.unsaid) h.same) (other-end _ h.ends (λ f. omega (arith, f))) tells e
  start-unsaid (inr (inr (inr (inl h)))) tells e = go (nine-or-not last)
    where
      by : (status_of last ≡ 9 → ⊥) → (mid.counts.unsaid ≡ old.counts.unsaid) ⊎ (last ≡ unsaid) → Rose old.counts.unsaid new.counts.unsaid
      by other (inl same) = still-unsaid same other tells e
      by other (inr is) = absurd (other (ap status_of is))

      go : (last ≡ unsaid) ⊎ (status_of last ≡ 9 → ⊥) → Rose old.counts.unsaid new.counts.unsaid
      go (inl is) = rose-same old.counts.unsaid mid.counts.unsaid new.counts.unsaid (holds-unsaid h.given start.run start.most h.answers old mid last is h.holds)
          (ap (λ (s : SiteView). s.counts.unsaid) (no-more last unsaid mid new answer is refl tells).0)
      go (inr other) = by other (holds-said h.given start.run start.most h.answers old mid last h.holds)
  start-unsaid (inr (inr (inr (inr h)))) tells e = still-unsaid (ap (λ (s : SiteView). s.counts.unsaid) h.same) (other-end _ h.ends (λ f. omega (arith, f))) tells e

  -- ---- faults of the disk

  cut-eight : IsCutOff answer → answer ≡ 8 → ⊥
  cut-eight (inl f) e = omega (arith, e, f)
  cut-eight (inr (inl f)) e = omega (arith, e, f)
  cut-eight (inr (inr f)) e = f

  told-eight : Tells last mid new answer → answer ≡ 8 → status_of last ≡ 8
  told-eight tells e = go (tells-status last mid new answer tells)
    where
      go : (answer ≡ status_of last) ⊎ IsCutOff answer → status_of last ≡ 8
      go (inl f) = sym f ∙ e
      go (inr c) = absurd (cut-eight c e)

  not-eight : (end : End) → last ≡ end → (status_of end ≡ 8 → ⊥) → Tells last mid new answer → answer ≡ 8 → ⊥
  not-eight end is other tells e = other (sym (ap status_of is) ∙ told-eight tells e)

  pub start-failed : Performs (starts start) old mid last → Tells last mid new answer → answer ≡ 8 → Rose old.disk.faults new.disk.faults
  start-failed (inl h) tells e = absurd (not-eight _ h.ends (λ f. omega (arith, f)) tells e)
  start-failed (inr (inl h)) tells e = absurd (not-eight _ h.ends (λ f. omega (arith, f)) tells e)
  start-failed (inr (inr (inl h))) tells e = absurd (not-eight _ h.ends (λ f. omega (arith, f)) tells e)
  start-failed (inr (inr (inr (inl h)))) tells e = rose-same old.disk.faults mid.disk.faults new.disk.faults
      (holds-failed h.given start.run start.most h.answers old mid last (eight-is last (told-eight tells e)) h.holds) (last-disk last (text_of last) mid new answer tells)
  start-failed (inr (inr (inr (inr h)))) tells e = absurd (not-eight _ h.ends (λ f. omega (arith, f)) tells e)

  -- ---- the status

  as-said : (P : ℕ → Type 0) → P (status_of last) → Tells last mid new answer → P answer ⊎ IsCutOff answer
  as-said P h tells = go (tells-status last mid new answer tells)
    where
      go : (answer ≡ status_of last) ⊎ IsCutOff answer → P answer ⊎ IsCutOff answer
      go (inl f) = inl (subst P (sym f) h)
      go (inr c) = inr c

  pub start-comes : Performs (starts start) old mid last → Tells last mid new answer → HasStatus (starts start) old new answer ⊎ IsCutOff answer
  start-comes (inl h) tells = as-said (λ n. HasStatus (starts start) old new n) (inl ((h.text, h.is, h.number, h.bad), ap status_of h.ends)) tells
  start-comes (inr (inl h)) tells = as-said (λ n. HasStatus (starts start) old new n) (inr (inl (((h.answers, h.are), inl (h.broken, h.breaks)), ap status_of h.ends))) tells
  start-comes (inr (inr (inl h))) tells = as-said (λ n. HasStatus (starts start) old new n) (inr (inl (((h.answers, h.are), inr (h.rule, h.breaks)), ap status_of h.ends))) tells
  start-comes (inr (inr (inr (inl h)))) tells = as-said (λ n. HasStatus (starts start) old new n)
      (inr (inr (record { last = last; came = record { between = mid; session = h; behind = tells-line last mid new answer tells }; is = refl }))) tells
  start-comes (inr (inr (inr (inr h)))) tells = inr (go (tells-status last mid new answer tells))
    where
      go : (answer ≡ status_of last) ⊎ IsCutOff answer → IsCutOff answer
      go (inl f) = inr (inl (f ∙ ap status_of h.ends))
      go (inr c) = c

  -- ---- what stays

  pub start-agrees : Performs (starts start) old mid last → IsStart old start.run → KeepsAgreement old mid
  start-agrees (inl h) is = subst (KeepsAgreement old) (sym h.same) (agrees-still old start.run is)
  start-agrees (inr (inl h)) is = subst (KeepsAgreement old) (sym h.same) (agrees-still old start.run is)
  start-agrees (inr (inr (inl h))) is = subst (KeepsAgreement old) (sym h.same) (agrees-still old start.run is)
  start-agrees (inr (inr (inr (inl h)))) is = h.holds.agreement is
  start-agrees (inr (inr (inr (inr h)))) is = subst (KeepsAgreement old) (sym h.same) (agrees-still old start.run is)
