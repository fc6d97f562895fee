-- A file of the disk is opened, and something is said of it.
use Rattle.std.proofs.Common.{◌≡◌, ◌⊎◌, ◌∙◌, inl, inr, sym, ap, subst, arith, ℕ, List}
use Rattle.cacao_site.specs.Counts.{Rose, next_count}
use Rattle.cacao_site.specs.View.{SiteView}
use Rattle.slpf_actuator.specs.ActuatorView.{HoldsActs}
use Rattle.slpf_actuator.specs.Damage.{IsDamaged}
use Rattle.cacao_cli_ends.specs.Ends.{End, text_of, damaged, disk_failed, done, no_memory}
use Rattle.cacao_cli_status_laws.specs.Ended.{Performs}
use Rattle.cacao_cli_ends.specs.Stays.{WritesNothing}
use Rattle.cacao_cli_ends.specs.Lines.{Tells}
use Rattle.cacao_cli_ends.specs.Work.{Look, opens_filter}
use Rattle.cacao_cli_ends.proofs.LineLemmas.{IsCutOff, says-status}
use Rattle.cacao_cli_ends.proofs.SayingLemmas.{tells-some}
use Rattle.cacao_cli_ends.proofs.UnsaidLemmas.{last-disk, last-said, last-unsaid, works-said, works-unsaid}
use Rattle.cacao_cli_looks.proofs.OpenLemmas.{ComesOpened, cut-eight, ended, not-eight, not-nine, nothing-written, opened-unsaid, work-some}

module _ (agent : ℕ) (look : Look) (old mid new : SiteView) (last : End) (answer : ℕ) where
  -- the site behind the opening, and that all behind it is lines said
  pub writes-nothing : Performs (opens_filter agent look) old mid last → Tells last mid new answer → WritesNothing agent old new
  writes-nothing (inl h) tells = nothing-written agent old h.between new h.opens (work-some h.lines done h.between mid new last answer h.says tells)
  writes-nothing (inr (inl h)) tells = nothing-written agent old mid new h.opens (tells-some last mid new answer tells)
  writes-nothing (inr (inr (inl h))) tells = nothing-written agent old mid new h.opens (tells-some last mid new answer tells)
  writes-nothing (inr (inr (inr h))) tells = nothing-written agent old mid new h.opens (tells-some last mid new answer tells)

pub opens-comes : (agent : ℕ) (look : Look) (old mid new : SiteView) (last : End) (answer : ℕ) → Performs (opens_filter agent look) old mid last → Tells last mid new answer → ComesOpened agent old new answer ⊎ IsCutOff answer
opens-comes agent look old mid new last answer (inl h) tells = go (says-status h.lines done h.between mid new last answer h.says tells)
  where
    same : new.disk.reads agent ≡ h.between.disk.reads agent
    same = ((work-some h.lines done h.between mid new last answer h.says tells).disk.stays agent).reads

    go : (answer ≡ 0) ⊎ IsCutOff answer → ComesOpened agent old new answer ⊎ IsCutOff answer
    go (inr c) = inr c
    go (inl e) = inl (inl (inl ((λ told. (h.acts, h.history, subst (HoldsActs h.acts) (sym same) (h.holds told))), e)))
opens-comes agent look old mid new last answer (inr (inl h)) tells = go (ended (damaged agent h.place) last mid new answer h.ends tells)
  where
    same : new.disk.reads agent ≡ mid.disk.reads agent
    same = ((tells-some last mid new answer tells).disk.stays agent).reads

    go : (answer ≡ 13) ⊎ IsCutOff answer → ComesOpened agent old new answer ⊎ IsCutOff answer
    go (inr c) = inr c
    go (inl e) = inl (inl (inr ((λ told. (h.place, subst (λ (image : List ℕ). IsDamaged image h.place) (sym same) (h.is_damaged told))), e)))
opens-comes agent look old mid new last answer (inr (inr (inl h))) tells = go (ended disk_failed last mid new answer h.ends tells)
  where
    go : (answer ≡ 8) ⊎ IsCutOff answer → ComesOpened agent old new answer ⊎ IsCutOff answer
    go (inr c) = inr c
    go (inl e) = inl (inr e)
opens-comes agent look old mid new last answer (inr (inr (inr h))) tells = inr (go (ended no_memory last mid new answer h.ends tells))
  where
    go : (answer ≡ 10) ⊎ IsCutOff answer → IsCutOff answer
    go (inr c) = c
    go (inl e) = inr (inl e)

pub opens-failed : (agent : ℕ) (look : Look) (old mid new : SiteView) (last : End) (answer : ℕ) → Performs (opens_filter agent look) old mid last → Tells last mid new answer → answer ≡ 8 → Rose old.disk.faults new.disk.faults
opens-failed agent look old mid new last answer (inl h) tells e = absurd (go (says-status h.lines done h.between mid new last answer h.says tells))
  where
    go : (answer ≡ 0) ⊎ IsCutOff answer → ⊥
    go (inl f) = omega (arith, e, f)
    go (inr c) = cut-eight answer c e
opens-failed agent look old mid new last answer (inr (inl h)) tells e = absurd (not-eight (damaged agent h.place) last mid new answer h.ends (λ f. omega (arith, f)) tells e)
opens-failed agent look old mid new last answer (inr (inr (inl h))) tells e = subst (λ (n : ℕ). Rose old.disk.faults n) (sym (last-disk last (text_of last) mid new answer tells)) h.cause
opens-failed agent look old mid new last answer (inr (inr (inr h))) tells e = absurd (not-eight no_memory last mid new answer h.ends (λ f. omega (arith, f)) tells e)

pub opens-said : (agent : ℕ) (look : Look) (old mid new : SiteView) (last : End) (answer : ℕ) → Performs (opens_filter agent look) old mid last → Tells last mid new answer → (answer ≡ 9 → ⊥) → new.counts.unsaid ≡ old.counts.unsaid
opens-said agent look old mid new last answer (inl h) tells unlike = works-said h.lines done h.between mid new last answer h.says tells unlike ∙ opened-unsaid agent old h.between h.opens
opens-said agent look old mid new last answer (inr (inl h)) tells unlike = last-said last (text_of last) mid new answer tells unlike ∙ opened-unsaid agent old mid h.opens
opens-said agent look old mid new last answer (inr (inr (inl h))) tells unlike = last-said last (text_of last) mid new answer tells unlike ∙ opened-unsaid agent old mid h.opens
opens-said agent look old mid new last answer (inr (inr (inr h))) tells unlike = last-said last (text_of last) mid new answer tells unlike ∙ opened-unsaid agent old mid h.opens

pub opens-unsaid : (agent : ℕ) (look : Look) (old mid new : SiteView) (last : End) (answer : ℕ) → Performs (opens_filter agent look) old mid last → Tells last mid new answer → answer ≡ 9 → new.counts.unsaid ≡ next_count old.counts.unsaid
opens-unsaid agent look old mid new last answer (inl h) tells e =
    works-unsaid h.lines done h.between mid new last answer (λ f. omega (arith, f)) h.says tells e ∙ ap next_count (opened-unsaid agent old h.between h.opens)
opens-unsaid agent look old mid new last answer (inr (inl h)) tells e =
    last-unsaid last (text_of last) mid new answer (not-nine (damaged agent h.place) last h.ends (λ f. omega (arith, f))) tells e ∙ ap next_count (opened-unsaid agent old mid h.opens)
opens-unsaid agent look old mid new last answer (inr (inr (inl h))) tells e =
    last-unsaid last (text_of last) mid new answer (not-nine disk_failed last h.ends (λ f. omega (arith, f))) tells e ∙ ap next_count (opened-unsaid agent old mid h.opens)
opens-unsaid agent look old mid new last answer (inr (inr (inr h))) tells e =
    last-unsaid last (text_of last) mid new answer (not-nine no_memory last h.ends (λ f. omega (arith, f))) tells e ∙ ap next_count (opened-unsaid agent old mid h.opens)
