-- What a session over a wire counts, and how it may end.
use Rattle.std.proofs.Common.{◌≡◌, ◌⊎◌, inl, inr, ◌∙◌, refl, sym, ap, subst, ℕ, ◌≤◌, Bool, true, List, Some}
use Rattle.cacao_site.specs.Counts.{Rose}
use Rattle.cacao_site.specs.View.{CountsView, SiteView}
use Rattle.flow_core_rules.specs.Givens.{Given}
use Rattle.flow_engine_answers.specs.declared.answers.OperatorAnswer.{OperatorAnswer}
use Rattle.flow_world_steps.specs.Worlds.{Cause, disk_failed as failed_disk, not_said, refused as refused_by}
use Rattle.flow_world_parts.specs.Closes.{refusal_of}
use Rattle.flow_world_parts.specs.Openings.{RefusesJournal}
use Rattle.flow_world_parts.specs.declared.error.WorldError.{WorldError}
use Rattle.flow_world_parts.specs.declared.error.WorldError.TheVariants as world
use Rattle.flow_world.proofs.CloseLemmas.{closes_are_no_refusals}
use Rattle.flow_world.proofs.FaultLemmas.{cause-disk, cause-say, refused-counts, refused-disk, refused-say, rose-later, shown-as}
use Rattle.oc2_wire.specs.Errors.{wire_error}
use Rattle.oc2_wire.specs.Serving.{HasRefused, RefusesServing, Serves}
use Rattle.oc2_wire.specs.declared.error.WireError.{WireError}
use Rattle.oc2_wire.specs.declared.error.WireError.TheVariants as error
use Rattle.cacao_cli_ends.specs.Comes.{IsOneOf}
use Rattle.cacao_cli_ends.specs.Ends.{End, disk_failed, status_of, unsaid}
use Rattle.cacao_cli_ends.proofs.StatusLists.{session_statuses}
use Rattle.cacao_cli_starts.proofs.HoldLemmas.{close-eight, close-nine, close-status}
use Rattle.cacao_cli_starts.proofs.StepLemmas.{Unsaid, none_unsaid, one_unsaid, steps_unsaid}
use Rattle.cacao_cli_peers.specs.Pairing.{ClosesOver, RefusesOver, SessionOver, wire_end}

-- ---- refusals

-- which refusal of a session has this one of a wire
wire-nine : (why : WireError) → wire_end why ≡ unsaid → why ≡ error.Say
wire-nine error.Disk e = absurd (cc)
wire-nine error.Say e = refl
wire-nine error.Memory e = absurd (cc)
wire-nine (error.Limit what) e = absurd (cc)
wire-nine (error.OtherRun held asked) e = absurd (cc)
wire-nine (error.OtherBook index) e = absurd (cc)
wire-nine (error.Damaged file place) e = absurd (cc)
wire-nine error.Flooded e = absurd (cc)
wire-nine error.TooLong e = absurd (cc)
wire-nine error.Link e = absurd (cc)

pub wire-eight : (why : WireError) → wire_end why ≡ disk_failed → why ≡ error.Disk
wire-eight error.Disk e = refl
wire-eight error.Say e = absurd (cc)
wire-eight error.Memory e = absurd (cc)
wire-eight (error.Limit what) e = absurd (cc)
wire-eight (error.OtherRun held asked) e = absurd (cc)
wire-eight (error.OtherBook index) e = absurd (cc)
wire-eight (error.Damaged file place) e = absurd (cc)
wire-eight error.Flooded e = absurd (cc)
wire-eight error.TooLong e = absurd (cc)
wire-eight error.Link e = absurd (cc)

world-say : (why : WorldError) → wire_error why ≡ Some error.Say → why ≡ world.Say
world-say world.Disk e = absurd (cc)
world-say world.Say e = refl
world-say world.Memory e = absurd (cc)
world-say (world.Limit what) e = absurd (cc)
world-say (world.OtherRun held asked) e = absurd (cc)
world-say (world.OtherBook index) e = absurd (cc)
world-say (world.RunUsed agent) e = absurd (cc)
world-say (world.Damaged file place) e = absurd (cc)

world-disk : (why : WorldError) → wire_error why ≡ Some error.Disk → why ≡ world.Disk
world-disk world.Disk e = refl
world-disk world.Say e = absurd (cc)
world-disk world.Memory e = absurd (cc)
world-disk (world.Limit what) e = absurd (cc)
world-disk (world.OtherRun held asked) e = absurd (cc)
world-disk (world.OtherBook index) e = absurd (cc)
world-disk (world.RunUsed agent) e = absurd (cc)
world-disk (world.Damaged file place) e = absurd (cc)

no-link : (why : WorldError) → wire_error why ≡ Some error.Link → ⊥
no-link world.Disk e = cc
no-link world.Say e = cc
no-link world.Memory e = cc
no-link (world.Limit what) e = cc
no-link (world.OtherRun held asked) e = cc
no-link (world.OtherBook index) e = cc
no-link (world.RunUsed agent) e = cc
no-link (world.Damaged file place) e = cc

engine-listed : (why : WireError) → (why ≡ error.Link → ⊥) → IsOneOf (status_of (wire_end why)) session_statuses
engine-listed error.Disk other = inr (inr (inr (inl refl)))
engine-listed error.Say other = inr (inr (inr (inr (inl refl))))
engine-listed error.Memory other = inr (inr (inr (inr (inr (inl refl)))))
engine-listed (error.Limit what) other = inr (inr (inr (inr (inr (inr (inl refl))))))
engine-listed error.TooLong other = inr (inr (inr (inr (inr (inr (inl refl))))))
engine-listed (error.OtherRun held asked) other = inr (inr (inr (inr (inr (inr (inr (inl refl)))))))
engine-listed (error.OtherBook index) other = inr (inr (inr (inr (inr (inr (inr (inl refl)))))))
engine-listed (error.Damaged file place) other = inr (inr (inr (inr (inr (inr (inr (inr (inl refl))))))))
engine-listed error.Flooded other = inr (inr (inr (inr (inr (inr (inr (inr (inr (inr (inl refl))))))))))
engine-listed error.Link other = absurd (other refl)

-- ---- the session

module _ (given : Given) (run most : ℕ) (answers : List OperatorAnswer) (old new : SiteView) where
  open-faults : (h : Serves given run most answers old new) → old.disk.faults ≤ h.start.site.disk.faults
  open-faults h = h.journal.opens.only.each.goes_on.faults

  open-counts : (h : Serves given run most answers old new) → h.start.site.counts.unsaid ≡ old.counts.unsaid
  open-counts h = ap (λ (c : CountsView). c.unsaid) h.journal.opens.only.rest.counts

  serves-same : (h : Serves given run most answers old new) → h.to.site.counts.unsaid ≡ h.start.site.counts.unsaid → new.counts.unsaid ≡ old.counts.unsaid
  serves-same h e = ap (λ (s : SiteView). s.counts.unsaid) (sym h.to_is) ∙ e ∙ open-counts h

  -- a line that could not be said ends the session so
  pub over-said : (how : End) → SessionOver given run most answers old new how → (new.counts.unsaid ≡ old.counts.unsaid) ⊎ (how ≡ unsaid)
  over-said how h = go h.held
    where
      go : ClosesOver given run most answers old new how ⊎ RefusesOver given run most answers old new how → (new.counts.unsaid ≡ old.counts.unsaid) ⊎ (how ≡ unsaid)
      go (inl c) = by (steps_unsaid c.served.serves.start c.served.serves.to c.served.serves.steps)
        where
          by : Unsaid c.served.serves.start c.served.serves.to → (new.counts.unsaid ≡ old.counts.unsaid) ⊎ (how ≡ unsaid)
          by (none_unsaid e) = inl (serves-same c.served.serves e)
          by (one_unsaid phase e) = absurd (closes_are_no_refusals c.served.serves.to c.close world.Say c.served.closes (record { cause = not_said; lacks = true; phase = phase; is = refl }))
      go (inr r) = by r.refused
        where
          later : (l : RefusesServing r.error given run most answers old new) → Unsaid l.serves.start l.serves.to → (new.counts.unsaid ≡ old.counts.unsaid) ⊎ (how ≡ unsaid)
          later l (none_unsaid e) = inl (serves-same l.serves e)
          later l (one_unsaid phase e) =
              let cause : l.refuses.cause ≡ not_said = same-cause l.refuses.cause not_said l.refuses.lacks true (sym l.refuses.phase ∙ phase) in
              let say : l.why ≡ world.Say = l.refuses.is ∙ ap refusal_of cause in
              let told : r.error ≡ error.Say = inner r.error error.Say (sym l.is ∙ ap wire_error say) in
              inr (r.ends ∙ ap wire_end told)
            where
              same-cause : (a b : Cause) (x y : Bool) → refused_by a x ≡ refused_by b y → a ≡ b
              same-cause a b x y e = cc

              inner : (a b : WireError) → Some a ≡ Some b → a ≡ b
              inner a b e = cc

          by : HasRefused r.error given run most answers old new → (new.counts.unsaid ≡ old.counts.unsaid) ⊎ (how ≡ unsaid)
          by (inl o) = inl (refused-counts given run old new o.why (inl o.journal))
          by (inr l) = later l (steps_unsaid l.serves.start l.serves.to l.serves.steps)

  refuses-unsaid : HasRefused error.Say given run most answers old new → Rose old.counts.unsaid new.counts.unsaid
  refuses-unsaid (inl o) = absurd (refused-say given run old new (inl (subst (λ (e : WorldError). RefusesJournal e given run old new) (world-say o.why o.is) o.journal)))
  refuses-unsaid (inr l) =
      let cause : l.refuses.cause ≡ not_said = cause-say l.refuses.cause (sym l.refuses.is ∙ world-say l.why l.is) in
      let phase : l.serves.to.phase ≡ refused_by not_said l.refuses.lacks = l.refuses.phase ∙ ap (λ (c : Cause). refused_by c l.refuses.lacks) cause in
      let rose : Rose l.serves.start.site.counts.unsaid l.serves.to.site.counts.unsaid =
      (shown-as l.serves.to.phase (refused_by not_said l.refuses.lacks) l.serves.start l.serves.to phase l.serves.cause.shows).0 in
      subst (λ (s : SiteView). Rose old.counts.unsaid s.counts.unsaid) l.serves.to_is
      (subst (λ (n : ℕ). Rose n l.serves.to.site.counts.unsaid) (open-counts l.serves) rose)

  pub over-unsaid : (how : End) → how ≡ unsaid → SessionOver given run most answers old new how → Rose old.counts.unsaid new.counts.unsaid
  over-unsaid how is h = go h.held
    where
      go : ClosesOver given run most answers old new how ⊎ RefusesOver given run most answers old new how → Rose old.counts.unsaid new.counts.unsaid
      go (inl c) = absurd (close-nine c.close (sym c.ends ∙ is))
      go (inr r) = refuses-unsaid (subst (λ (e : WireError). HasRefused e given run most answers old new) (wire-nine r.error (sym r.ends ∙ is)) r.refused)

  refuses-failed : HasRefused error.Disk given run most answers old new → Rose old.disk.faults new.disk.faults
  refuses-failed (inl o) = refused-disk given run old new (inl (subst (λ (e : WorldError). RefusesJournal e given run old new) (world-disk o.why o.is) o.journal))
  refuses-failed (inr l) =
      let cause : l.refuses.cause ≡ failed_disk = cause-disk l.refuses.cause (sym l.refuses.is ∙ world-disk l.why l.is) in
      let phase : l.serves.to.phase ≡ refused_by failed_disk l.refuses.lacks = l.refuses.phase ∙ ap (λ (c : Cause). refused_by c l.refuses.lacks) cause in
      let rose : Rose l.serves.start.site.disk.faults l.serves.to.site.disk.faults =
      shown-as l.serves.to.phase (refused_by failed_disk l.refuses.lacks) l.serves.start l.serves.to phase l.serves.cause.shows in
      subst (λ (s : SiteView). Rose old.disk.faults s.disk.faults) l.serves.to_is
      (rose-later old.disk.faults l.serves.start.site.disk.faults l.serves.to.site.disk.faults (open-faults l.serves) rose)

  pub over-failed : (how : End) → how ≡ disk_failed → SessionOver given run most answers old new how → Rose old.disk.faults new.disk.faults
  over-failed how is h = go h.held
    where
      go : ClosesOver given run most answers old new how ⊎ RefusesOver given run most answers old new how → Rose old.disk.faults new.disk.faults
      go (inl c) = absurd (close-eight c.close (sym c.ends ∙ is))
      go (inr r) = refuses-failed (subst (λ (e : WireError). HasRefused e given run most answers old new) (wire-eight r.error (sym r.ends ∙ is)) r.refused)

  -- no session tells that the peers failed
  pub over-listed : (how : End) → SessionOver given run most answers old new how → IsOneOf (status_of how) session_statuses
  over-listed how h = go h.held
    where
      go : ClosesOver given run most answers old new how ⊎ RefusesOver given run most answers old new how → IsOneOf (status_of how) session_statuses
      go (inl c) = subst (λ (e : End). IsOneOf (status_of e) session_statuses) (sym c.ends) (close-status c.close)
      go (inr r) = subst (λ (e : End). IsOneOf (status_of e) session_statuses) (sym r.ends) (by r.refused)
        where
          listed : (why : WorldError) (e : WireError) → wire_error why ≡ Some e → IsOneOf (status_of (wire_end e)) session_statuses
          listed why e is = engine-listed e (λ link. no-link why (is ∙ ap (λ (x : WireError). Some x) link))

          by : HasRefused r.error given run most answers old new → IsOneOf (status_of (wire_end r.error)) session_statuses
          by (inl o) = listed o.why r.error o.is
          by (inr l) = listed l.why r.error l.is
