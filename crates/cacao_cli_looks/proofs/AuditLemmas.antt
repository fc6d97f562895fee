-- The files of a run are compared, and the verdict is told.
use Rattle.std.proofs.Common.{◌≡◌, ◌⊎◌, inl, inr, ◌∙◌, sym, ap, arith, ℕ, List}
use Rattle.cacao_site.specs.Counts.{next_count}
use Rattle.cacao_site.specs.View.{SiteView}
use Rattle.flow_audit.specs.declared.verdict.Verdict17.{Verdict17}
use Rattle.flow_audit.specs.declared.verdict.Verdict17.TheVariants as verdict
use Rattle.cacao_cli_words.specs.Words.{Text}
use Rattle.cacao_cli_looks.specs.Audited.{FilesAgree, Compares, Disagree, IsOnlyVerdict, PassTasks, TellsFiles, verdict_end, HasVerdict}
use Rattle.cacao_cli_ends.specs.Ends.{End, status_of, text_of}
use Rattle.cacao_cli_ends.specs.Lines.{Tells}
use Rattle.cacao_cli_ends.proofs.LineLemmas.{IsCutOff, tells-status}
use Rattle.cacao_cli_ends.proofs.UnsaidLemmas.{last-said, last-unsaid}

-- the status of the end
told-verdict : (files : List Text) (end : End) (told : Verdict17) (n : ℕ) → IsOnlyVerdict files told → end ≡ verdict_end told → n ≡ status_of end → HasVerdict files n
told-verdict files end (verdict.Yes records acts) n only is e = inl ((records, acts, only), e ∙ ap status_of is)
told-verdict files end (verdict.No file place) n only is e = inr (inl ((file, place, only), e ∙ ap status_of is))

tells-verdict : (files : List Text) (end : End) (n : ℕ) → TellsFiles files end → n ≡ status_of end → HasVerdict files n ⊎ IsCutOff n
tells-verdict files end n (inl h) e = inl (told-verdict files end h.0 n h.1 h.2 e)
tells-verdict files end n (inr (inl h)) e = inl (inr (inr (h.0, e ∙ ap status_of h.1)))
tells-verdict files end n (inr (inr is)) e = inr (inr (inl (e ∙ ap status_of is)))

pub compares-comes : (files : List Text) (old mid new : SiteView) (last : End) (answer : ℕ) → Compares files old mid last → Tells last mid new answer → HasVerdict files answer ⊎ IsCutOff answer
compares-comes files old mid new last answer h tells = go (tells-status last mid new answer tells)
  where
    go : (answer ≡ status_of last) ⊎ IsCutOff answer → HasVerdict files answer ⊎ IsCutOff answer
    go (inl e) = tells-verdict files last answer h.tells e
    go (inr c) = inr c

-- 0, 10, 11 and 18 alone
verdict-status : (told : Verdict17) (n : ℕ) → n ≡ status_of (verdict_end told) → (n ≡ 0 → ⊥) → (n ≡ 18 → ⊥) → ⊥
verdict-status (verdict.Yes records acts) n e a b = a e
verdict-status (verdict.No file place) n e a b = b e

pub tells-other : (files : List Text) (end : End) (n : ℕ) → TellsFiles files end → status_of end ≡ n → (n ≡ 0 → ⊥) → (n ≡ 18 → ⊥) → (n ≡ 11 → ⊥) → (n ≡ 10 → ⊥) → ⊥
tells-other files end n (inl h) e a b c d = verdict-status h.0 n (sym e ∙ ap status_of h.2) a b
tells-other files end n (inr (inl h)) e a b c d = c (sym e ∙ ap status_of h.1)
tells-other files end n (inr (inr is)) e a b c d = d (sym e ∙ ap status_of is)

pub has-other : (files : List Text) (n m : ℕ) → HasVerdict files n → n ≡ m → (0 ≡ m → ⊥) → (18 ≡ m → ⊥) → (11 ≡ m → ⊥) → ⊥
has-other files n m (inl h) e a b c = a (sym h.1 ∙ e)
has-other files n m (inr (inl h)) e a b c = b (sym h.1 ∙ e)
has-other files n m (inr (inr h)) e a b c = c (sym h.1 ∙ e)

-- ---- the counts

pub compares-disk : (files : List Text) (old mid : SiteView) (last : End) → Compares files old mid last → mid.disk.faults ≡ old.disk.faults
compares-disk files old mid last h = ap (λ (s : SiteView). s.disk.faults) h.same

pub compares-said : (files : List Text) (old mid new : SiteView) (last : End) (answer : ℕ) → Compares files old mid last → Tells last mid new answer → (answer ≡ 9 → ⊥) → new.counts.unsaid ≡ old.counts.unsaid
compares-said files old mid new last answer h tells unlike = last-said last (text_of last) mid new answer tells unlike ∙ ap (λ (s : SiteView). s.counts.unsaid) h.same

pub compares-unsaid : (files : List Text) (old mid new : SiteView) (last : End) (answer : ℕ) → Compares files old mid last → Tells last mid new answer → answer ≡ 9 → new.counts.unsaid ≡ next_count old.counts.unsaid
compares-unsaid files old mid new last answer h tells e = last-unsaid last (text_of last) mid new answer
    (λ is. tells-other files last 9 h.tells is (λ f. omega (arith, f)) (λ f. omega (arith, f)) (λ f. omega (arith, f)) (λ f. omega (arith, f))) tells e
    ∙ ap (λ (s : SiteView). next_count s.counts.unsaid) h.same

pub compares-failed : (files : List Text) (old mid new : SiteView) (last : End) (answer : ℕ) → Compares files old mid last → Tells last mid new answer → answer ≡ 8 → ⊥
compares-failed files old mid new last answer h tells e = go (tells-status last mid new answer tells)
  where
    go : (answer ≡ status_of last) ⊎ IsCutOff answer → ⊥
    go (inl is) = tells-other files last 8 h.tells (sym is ∙ e) (λ f. omega (arith, f)) (λ f. omega (arith, f)) (λ f. omega (arith, f)) (λ f. omega (arith, f))
    go (inr (inl f)) = omega (arith, e, f)
    go (inr (inr (inl f))) = omega (arith, e, f)
    go (inr (inr (inr f))) = f

-- ---- the status settles the cause

pub verdict-agree : (files : List Text) (n : ℕ) → HasVerdict files n → n ≡ 0 → FilesAgree files
verdict-agree files n (inl h) e = record { within = h.0.2.within; records = h.0.0; acts = h.0.1; agree = h.0.2.is }
verdict-agree files n (inr (inl h)) e = absurd (omega (arith, e, h.1))
verdict-agree files n (inr (inr h)) e = absurd (omega (arith, e, h.1))

pub agree-verdict : (files : List Text) (n : ℕ) → HasVerdict files n → FilesAgree files → n ≡ 0
agree-verdict files n (inl h) a = h.1
agree-verdict files n (inr (inl h)) a = absurd (apart (h.0.2.one (verdict.Yes a.records a.acts) a.agree))
  where
    apart : verdict.No h.0.0 h.0.1 ≡ verdict.Yes a.records a.acts → ⊥
    apart e = cc
agree-verdict files n (inr (inr h)) a = absurd (a.within h.0)

pub verdict-disagree : (files : List Text) (n : ℕ) → HasVerdict files n → n ≡ 18 → Disagree files
verdict-disagree files n (inl h) e = absurd (omega (arith, e, h.1))
verdict-disagree files n (inr (inl h)) e = record { within = h.0.2.within; file = h.0.0; place = h.0.1; at = h.0.2.is }
verdict-disagree files n (inr (inr h)) e = absurd (omega (arith, e, h.1))

pub disagree-verdict : (files : List Text) (n : ℕ) → HasVerdict files n → Disagree files → n ≡ 18
disagree-verdict files n (inl h) d = absurd (apart (h.0.2.one (verdict.No d.file d.place) d.at))
  where
    apart : verdict.Yes h.0.0 h.0.1 ≡ verdict.No d.file d.place → ⊥
    apart e = cc
disagree-verdict files n (inr (inl h)) d = h.1
disagree-verdict files n (inr (inr h)) d = absurd (d.within h.0)

pub verdict-tasks : (files : List Text) (n : ℕ) → HasVerdict files n → n ≡ 11 → PassTasks files
verdict-tasks files n (inl h) e = absurd (omega (arith, e, h.1))
verdict-tasks files n (inr (inl h)) e = absurd (omega (arith, e, h.1))
verdict-tasks files n (inr (inr h)) e = h.0

pub tasks-verdict : (files : List Text) (n : ℕ) → HasVerdict files n → PassTasks files → n ≡ 11
tasks-verdict files n (inl h) p = absurd (h.0.2.within p)
tasks-verdict files n (inr (inl h)) p = absurd (h.0.2.within p)
tasks-verdict files n (inr (inr h)) p = h.1
