-- What a session that refuses has raised.
use Rattle.std.proofs.Common.{◌≡◌, inl, inr, ◌∙◌, refl, sym, ap, subst, arith, ℕ, ◌≤◌, List}
use Rattle.cacao_site.specs.Counts.{Rose}
use Rattle.cacao_site.specs.View.{CountsView, SiteView}
use Rattle.flow_core_rules.specs.Givens.{Given}
use Rattle.flow_engine_answers.specs.declared.answers.OperatorAnswer.{OperatorAnswer}
use Rattle.flow_world_parts.specs.EngineError.{EngineError}
use Rattle.flow_world_parts.specs.EngineError.TheVariants as engine_error
use Rattle.flow_world_parts.specs.HistoryOpenings.{IsRefusedOpening}
use Rattle.flow_world_parts.specs.Causes.{Shows}
use Rattle.flow_world_parts.specs.Worlds.{Cause, Phase, World, disk_failed as failed_disk, not_said, past as past_limit, refused as refused_by, run_used as used, wants_memory}
use Rattle.flow_world_parts.specs.Closes.{refusal_of}
use Rattle.flow_world_parts.specs.Errors.{opening_refusal}
use Rattle.flow_world_parts.specs.Openings.{AreOpen, RefusesOpening}
use Rattle.flow_world_parts.specs.declared.error.WorldError.{WorldError}
use Rattle.flow_world_parts.specs.declared.error.WorldError.TheVariants as error
use Rattle.flow_world.specs.Sessions.{HasRefused}

-- ---- the causes of refusals once the files are open

pub cause-say : (cause : Cause) → refusal_of cause ≡ error.Say → cause ≡ not_said
cause-say failed_disk e = absurd (cc)
cause-say not_said e = refl
cause-say (used agent) e = absurd (cc)
cause-say (past_limit what) e = absurd (cc)
cause-say wants_memory e = absurd (cc)

pub cause-disk : (cause : Cause) → refusal_of cause ≡ error.Disk → cause ≡ failed_disk
cause-disk failed_disk e = refl
cause-disk not_said e = absurd (cc)
cause-disk (used agent) e = absurd (cc)
cause-disk (past_limit what) e = absurd (cc)
cause-disk wants_memory e = absurd (cc)

pub shown-as : (p q : Phase) (a b : World) → p ≡ q → Shows p a b → Shows q a b
shown-as p q a b e h = subst (λ (x : Phase). Shows x a b) e h

-- ---- an opening

opening-say : (why : EngineError) → opening_refusal why ≡ error.Say → ⊥
opening-say engine_error.Disk e = cc
opening-say (engine_error.Damaged place) e = cc
opening-say (engine_error.OtherRun held asked) e = cc
opening-say (engine_error.OtherBook index) e = cc
opening-say (engine_error.Limit what) e = cc
opening-say engine_error.Broken e = cc
opening-say engine_error.Memory e = cc

opening-disk : (why : EngineError) → opening_refusal why ≡ error.Disk → why ≡ engine_error.Disk
opening-disk engine_error.Disk e = refl
opening-disk (engine_error.Damaged place) e = absurd (cc)
opening-disk (engine_error.OtherRun held asked) e = absurd (cc)
opening-disk (engine_error.OtherBook index) e = absurd (cc)
opening-disk (engine_error.Limit what) e = absurd (cc)
opening-disk engine_error.Broken e = absurd (cc)
opening-disk engine_error.Memory e = absurd (cc)

pub rose-later : (a b c : ℕ) → a ≤ b → Rose b c → Rose a c
rose-later a b c le rose = omega (arith, le, rose)

module _ (given : Given) (run : ℕ) (old new : SiteView) where
  pub open-faults : (start : World) → AreOpen given run old start.site start.engine start.filters → old.disk.faults ≤ start.site.disk.faults
  open-faults start h = omega (arith, h.journal.opens.only.each.goes_on.faults, h.others.goes_on.faults)

  pub open-counts : (start : World) → AreOpen given run old start.site start.engine start.filters → start.site.counts.unsaid ≡ old.counts.unsaid
  open-counts start h = ap (λ (c : CountsView). c.unsaid) (h.others.rest.counts ∙ h.journal.opens.only.rest.counts)

  pub refused-counts : (why : WorldError) → RefusesOpening why given run old new → new.counts.unsaid ≡ old.counts.unsaid
  refused-counts why (inl h) = ap (λ (c : CountsView). c.unsaid) h.opens.only.rest.counts
  refused-counts why (inr h) = ap (λ (c : CountsView). c.unsaid) (h.refuses.refuses.opens.only.rest.counts ∙ h.refuses.before.rest.counts ∙ h.journal.opens.only.rest.counts)

  pub refused-say : RefusesOpening error.Say given run old new → ⊥
  refused-say (inl h) = opening-say h.why (sym h.is)
  refused-say (inr h) = h.refuses.refuses.why

  pub refused-disk : RefusesOpening error.Disk given run old new → Rose old.disk.faults new.disk.faults
  refused-disk (inl h) = subst (λ (e : EngineError). IsRefusedOpening given run e old new) (opening-disk h.why (sym h.is)) h.refused
  refused-disk (inr h) = rose-later old.disk.faults h.refuses.middle.disk.faults new.disk.faults
      (let one = h.journal.opens.only.each.goes_on.faults in let two = h.refuses.before.goes_on.faults in omega (arith, one, two)) h.refuses.refuses.why

-- ---- the session

module _ (given : Given) (run most : ℕ) (answers : List OperatorAnswer) (old new : SiteView) where
  -- where a line could not be said, the count of such lines rose
  pub refuses-unsaid : HasRefused error.Say given run most answers old new → Rose old.counts.unsaid new.counts.unsaid
  refuses-unsaid (inl o) = absurd (refused-say given run old new o)
  refuses-unsaid (inr l) =
      let cause : l.refuses.cause ≡ not_said = cause-say l.refuses.cause (sym l.refuses.is) in
      let phase : l.went.to.phase ≡ refused_by not_said l.refuses.lacks = l.refuses.phase ∙ ap (λ (c : Cause). refused_by c l.refuses.lacks) cause in
      let rose : Rose l.went.start.site.counts.unsaid l.went.to.site.counts.unsaid =
      (shown-as l.went.to.phase (refused_by not_said l.refuses.lacks) l.went.start l.went.to phase l.went.cause.shows).0 in
      subst (λ (s : SiteView). Rose old.counts.unsaid s.counts.unsaid) l.went.to_is
      (subst (λ (n : ℕ). Rose n l.went.to.site.counts.unsaid) (open-counts given run old new l.went.start l.went.files) rose)

  -- where the disk failed, so did the count of its faults
  pub refuses-failed : HasRefused error.Disk given run most answers old new → Rose old.disk.faults new.disk.faults
  refuses-failed (inl o) = refused-disk given run old new o
  refuses-failed (inr l) =
      let cause : l.refuses.cause ≡ failed_disk = cause-disk l.refuses.cause (sym l.refuses.is) in
      let phase : l.went.to.phase ≡ refused_by failed_disk l.refuses.lacks = l.refuses.phase ∙ ap (λ (c : Cause). refused_by c l.refuses.lacks) cause in
      let rose : Rose l.went.start.site.disk.faults l.went.to.site.disk.faults =
      shown-as l.went.to.phase (refused_by failed_disk l.refuses.lacks) l.went.start l.went.to phase l.went.cause.shows in
      subst (λ (s : SiteView). Rose old.disk.faults s.disk.faults) l.went.to_is
      (rose-later old.disk.faults l.went.start.site.disk.faults l.went.to.site.disk.faults (open-faults given run old new l.went.start l.went.files) rose)
