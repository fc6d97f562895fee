-- What a session raises, and with which status it ends.
use Rattle.std.proofs.Common.{◌≡◌, ◌⊎◌, inl, inr, ◌∙◌, refl, sym, ap, subst, arith, ℕ, Bool, true, false, List}
use Rattle.cacao_site.specs.Counts.{Rose}
use Rattle.cacao_site.specs.View.{SiteView}
use Rattle.flow_engine_answers.specs.declared.answers.OperatorAnswer.{OperatorAnswer}
use Rattle.flow_core_rules.specs.Givens.{Given}
use Rattle.flow_world_steps.specs.Worlds.{Cause, not_said, refused as refused_by}
use Rattle.flow_world.specs.Closes.{refusal_of}
use Rattle.flow_world.specs.Sessions.{HasRefused, RefusesLater, Went}
use Rattle.flow_world.specs.Close.{Close}
use Rattle.flow_world.specs.Close.TheVariants as close
use Rattle.flow_world.specs.WorldError.{WorldError}
use Rattle.flow_world.specs.WorldError.TheVariants as error
use Rattle.flow_world.proofs.CloseLemmas.{closes_are_no_refusals}
use Rattle.flow_world.proofs.FaultLemmas.{open-counts, refused-counts, refuses-failed, refuses-unsaid}
use Rattle.cacao_cli_ends.specs.Ends.{End, status_of, disk_failed, ended_ok, unsaid}
use Rattle.cacao_cli_ends.specs.Comes.{IsOneOf}
use Rattle.cacao_cli_session.specs.Holding.{ClosesSo, HoldsSo, RefusesSo, close_end, error_end}
use Rattle.cacao_cli_session_laws.proofs.StepLemmas.{Unsaid, none_unsaid, one_unsaid, steps_unsaid}
use Rattle.cacao_cli_ends.proofs.StatusLists.{session_statuses}

-- ---- the statuses

pub close-status : (how : Close) → IsOneOf (status_of (close_end how)) session_statuses
close-status (close.Ended true) = inl refl
close-status (close.Ended false) = inr (inl refl)
close-status close.Paused = inr (inr (inl refl))
close-status (close.Waiting moment) = inr (inr (inr (inr (inr (inr (inr (inr (inr (inl refl)))))))))
close-status close.Flooded = inr (inr (inr (inr (inr (inr (inr (inr (inr (inr (inl refl))))))))))
close-status (close.Asked issue) = inr (inr (inr (inr (inr (inr (inr (inr (inr (inr (inr (inl refl)))))))))))

pub error-status : (why : WorldError) → IsOneOf (status_of (error_end why)) session_statuses
error-status error.Disk = inr (inr (inr (inl refl)))
error-status error.Say = inr (inr (inr (inr (inl refl))))
error-status error.Memory = inr (inr (inr (inr (inr (inl refl)))))
error-status (error.Limit what) = inr (inr (inr (inr (inr (inr (inl refl))))))
error-status (error.OtherRun held asked) = inr (inr (inr (inr (inr (inr (inr (inl refl)))))))
error-status (error.OtherBook index) = inr (inr (inr (inr (inr (inr (inr (inl refl)))))))
error-status (error.RunUsed agent) = inr (inr (inr (inr (inr (inr (inr (inl refl)))))))
error-status (error.Damaged file place) = inr (inr (inr (inr (inr (inr (inr (inr (inl refl))))))))

-- only a run that ended well has status 0
close-done : (how : Close) → status_of (close_end how) ≡ 0 → close_end how ≡ ended_ok
close-done (close.Ended true) e = refl
close-done (close.Ended false) e = absurd (omega (arith, e))
close-done close.Paused e = absurd (omega (arith, e))
close-done (close.Waiting moment) e = absurd (omega (arith, e))
close-done close.Flooded e = absurd (omega (arith, e))
close-done (close.Asked issue) e = absurd (omega (arith, e))

pub error-done : (why : WorldError) → status_of (error_end why) ≡ 0 → ⊥
error-done error.Disk e = omega (arith, e)
error-done error.Say e = omega (arith, e)
error-done error.Memory e = omega (arith, e)
error-done (error.Limit what) e = omega (arith, e)
error-done (error.OtherRun held asked) e = omega (arith, e)
error-done (error.OtherBook index) e = omega (arith, e)
error-done (error.RunUsed agent) e = omega (arith, e)
error-done (error.Damaged file place) e = omega (arith, e)

-- no close is a fault
pub close-nine : (how : Close) → close_end how ≡ unsaid → ⊥
close-nine (close.Ended true) e = cc
close-nine (close.Ended false) e = cc
close-nine close.Paused e = cc
close-nine (close.Waiting moment) e = cc
close-nine close.Flooded e = cc
close-nine (close.Asked issue) e = cc

pub close-eight : (how : Close) → close_end how ≡ disk_failed → ⊥
close-eight (close.Ended true) e = cc
close-eight (close.Ended false) e = cc
close-eight close.Paused e = cc
close-eight (close.Waiting moment) e = cc
close-eight close.Flooded e = cc
close-eight (close.Asked issue) e = cc

pub error-nine : (why : WorldError) → error_end why ≡ unsaid → why ≡ error.Say
error-nine error.Disk e = absurd (cc)
error-nine error.Say e = refl
error-nine error.Memory e = absurd (cc)
error-nine (error.Limit what) e = absurd (cc)
error-nine (error.OtherRun held asked) e = absurd (cc)
error-nine (error.OtherBook index) e = absurd (cc)
error-nine (error.RunUsed agent) e = absurd (cc)
error-nine (error.Damaged file place) e = absurd (cc)

pub error-eight : (why : WorldError) → error_end why ≡ disk_failed → why ≡ error.Disk
error-eight error.Disk e = refl
error-eight error.Say e = absurd (cc)
error-eight error.Memory e = absurd (cc)
error-eight (error.Limit what) e = absurd (cc)
error-eight (error.OtherRun held asked) e = absurd (cc)
error-eight (error.OtherBook index) e = absurd (cc)
error-eight (error.RunUsed agent) e = absurd (cc)
error-eight (error.Damaged file place) e = absurd (cc)

-- ---- the session

module _ (given : Given) (run most : ℕ) (answers : List OperatorAnswer) (old new : SiteView) where
  went-same : (h : Went given run most answers old new) → h.to.site.counts.unsaid ≡ h.start.site.counts.unsaid → new.counts.unsaid ≡ old.counts.unsaid
  went-same h e = ap (λ (s : SiteView). s.counts.unsaid) (sym h.to_is) ∙ e ∙ open-counts given run old new h.start h.files

  -- a line that could not be said ends the session so
  pub holds-said : (last : End) → HoldsSo given run most answers old new last → (new.counts.unsaid ≡ old.counts.unsaid) ⊎ (last ≡ unsaid)
  holds-said last h = go h.held
    where
      go : ClosesSo given run most answers old new last ⊎ RefusesSo given run most answers old new last → (new.counts.unsaid ≡ old.counts.unsaid) ⊎ (last ≡ unsaid)
      go (inl c) = by (steps_unsaid c.closed.went.start c.closed.went.to c.closed.went.steps)
        where
          by : Unsaid c.closed.went.start c.closed.went.to → (new.counts.unsaid ≡ old.counts.unsaid) ⊎ (last ≡ unsaid)
          by (none_unsaid e) = inl (went-same c.closed.went e)
          by (one_unsaid phase e) = absurd (closes_are_no_refusals c.closed.went.to c.close error.Say c.closed.closes (record { cause = not_said; lacks = true; phase = phase; is = refl }))
      go (inr r) = by r.why
        where
          later : (l : RefusesLater r.error given run most answers old new) → Unsaid l.went.start l.went.to → (new.counts.unsaid ≡ old.counts.unsaid) ⊎ (last ≡ unsaid)
          later l (none_unsaid e) = inl (went-same l.went e)
          later l (one_unsaid phase e) =
              let cause : l.refuses.cause ≡ not_said = same-cause l.refuses.cause not_said l.refuses.lacks true (sym l.refuses.phase ∙ phase) in
              let say : r.error ≡ error.Say = l.refuses.is ∙ ap refusal_of cause in
              inr (r.ends ∙ ap error_end say)
            where
              same-cause : (a b : Cause) (x y : Bool) → refused_by a x ≡ refused_by b y → a ≡ b
              same-cause a b x y e = cc

          by : HasRefused r.error given run most answers old new → (new.counts.unsaid ≡ old.counts.unsaid) ⊎ (last ≡ unsaid)
          by (inl o) = inl (refused-counts given run old new r.error o)
          by (inr l) = later l (steps_unsaid l.went.start l.went.to l.went.steps)

  pub holds-unsaid : (last : End) → last ≡ unsaid → HoldsSo given run most answers old new last → Rose old.counts.unsaid new.counts.unsaid
  holds-unsaid last is h = go h.held
    where
      go : ClosesSo given run most answers old new last ⊎ RefusesSo given run most answers old new last → Rose old.counts.unsaid new.counts.unsaid
      go (inl c) = absurd (close-nine c.close (sym c.ends ∙ is))
      go (inr r) = refuses-unsaid given run most answers old new (subst (λ (e : WorldError). HasRefused e given run most answers old new) (error-nine r.error (sym r.ends ∙ is)) r.why)

  pub holds-failed : (last : End) → last ≡ disk_failed → HoldsSo given run most answers old new last → Rose old.disk.faults new.disk.faults
  holds-failed last is h = go h.held
    where
      go : ClosesSo given run most answers old new last ⊎ RefusesSo given run most answers old new last → Rose old.disk.faults new.disk.faults
      go (inl c) = absurd (close-eight c.close (sym c.ends ∙ is))
      go (inr r) = refuses-failed given run most answers old new (subst (λ (e : WorldError). HasRefused e given run most answers old new) (error-eight r.error (sym r.ends ∙ is)) r.why)

  pub holds-status : (last : End) → HoldsSo given run most answers old new last → IsOneOf (status_of last) session_statuses
  holds-status last h = go h.held
    where
      go : ClosesSo given run most answers old new last ⊎ RefusesSo given run most answers old new last → IsOneOf (status_of last) session_statuses
      go (inl c) = subst (λ (e : End). IsOneOf (status_of e) session_statuses) (sym c.ends) (close-status c.close)
      go (inr r) = subst (λ (e : End). IsOneOf (status_of e) session_statuses) (sym r.ends) (error-status r.error)

  pub holds-done : (last : End) → status_of last ≡ 0 → HoldsSo given run most answers old new last → last ≡ ended_ok
  holds-done last is h = go h.held
    where
      go : ClosesSo given run most answers old new last ⊎ RefusesSo given run most answers old new last → last ≡ ended_ok
      go (inl c) = c.ends ∙ close-done c.close (sym (ap status_of c.ends) ∙ is)
      go (inr r) = absurd (error-done r.error (sym (ap status_of r.ends) ∙ is))
