-- What the filters' files hold where a session refused past a limit: acts, also in that of a filter whose next act would pass it.
use Rattle.std.proofs.Common.{◌≡◌, ◌⊎◌, inl, inr, ◌∙◌, refl, sym, ap, subst, arith, ℕ, suc, ◌-◌, ◌≤◌, Bool, false, List, length, Option, Some, None}
use Rattle.std.specs.Prelude.{IsTrue, slice_get}
use Rattle.cacao_site.specs.View.{SiteView}
use Rattle.cacao_site.specs.declared.parcel.Parcel.{Parcel}
use Rattle.run_records.specs.declared.act.Act.{Act}
use Rattle.flow_core.specs.declared.flow_errors.LimitKind.{LimitKind}
use Rattle.flow_core_rules.specs.Givens.{Given}
use Rattle.flow_engine_answers.specs.declared.answers.OperatorAnswer.{OperatorAnswer}
use Rattle.flow_laws.specs.Images.{IsAgent}
use Rattle.flow_laws.proofs.OneList.{acts_of_layout}
use Rattle.slpf_actuator.specs.ActuatorView.{ActuatorView, HoldsActs}
use Rattle.slpf_actuator.specs.Damage.{IsDamaged}
use Rattle.slpf_actuator.specs.declared.error.ActError.{ActError}
use Rattle.slpf_actuator.specs.declared.error.ActError.TheVariants as act_error
use Rattle.flow_world_steps.specs.Ready.{FilterStands, HoldsActsWithUnsure}
use Rattle.flow_world_steps.specs.Steps.{DoesNothing, IsActCause, Steps, Unsures}
use Rattle.flow_world_steps.specs.Unbroken.{AreFiltersSure, EndedByFilter}
use Rattle.flow_world_steps.specs.Unsure.{UnsureByFilter}
use Rattle.flow_world_steps.specs.Worlds.{Cause, Notes, Phase, World, disk_failed, holds, past, refused, wants_memory}
use Rattle.flow_world_steps.proofs.Unsure.{steps_unsure_act}
use Rattle.flow_world.specs.Closes.{IsRefusal}
use Rattle.flow_world.specs.Sessions.{Went}
use Rattle.flow_world.specs.WorldError.TheVariants as error
use Rattle.flow_world_laws.proofs.WholeActs.{acts_undamaged}
use Rattle.cacao_cli_session_laws.proofs.ReturnedRuns.{HoldsFilter, ReadsImages, cause-past, same-cause, sound-there, there-at, told-there}

-- a filter is full where a limit is the cause
full : (error : ActError) (v : ActuatorView) (parcel : Parcel) (old new : World) (cause : Cause) (what : LimitKind) → IsActCause error v parcel old new cause → cause ≡ past what
    → (needed : ℕ) × (error ≡ act_error.Full needed)
full act_error.Disk v parcel old new cause what why e = absurd (let f : disk_failed ≡ past what = sym why.1 ∙ e in cc)
full (act_error.Full needed) v parcel old new cause what why e = (needed, refl)
full act_error.Memory v parcel old new cause what why e = absurd (let f : wants_memory ≡ past what = sym why ∙ e in cc)
full (act_error.Damaged place) v parcel old new cause what why e = absurd why
full act_error.Broken v parcel old new cause what why e = absurd why

-- a command in hand, and no refusal
in-hand : (p : Phase) (beat : ℕ) (parcel : Parcel) (cause : Cause) (lacks : Bool) → p ≡ holds beat parcel → p ≡ refused cause lacks → ⊥
in-hand p beat parcel cause lacks e f = apart (sym e ∙ f)
  where
    apart : holds beat parcel ≡ refused cause lacks → ⊥
    apart h = cc

-- while a session goes on, no act is unsure
none-unsure : (a old : World) (beat : ℕ) (parcel : Parcel) → a.notes.unsure_act ≡ None → Steps a old → old.phase ≡ holds beat parcel → old.notes.unsure_act ≡ None
none-unsure a old beat parcel none steps here = go old.notes.unsure_act refl
  where
    go : (o : Option (ℕ × Act)) → old.notes.unsure_act ≡ o → old.notes.unsure_act ≡ None
    go None e = e
    go (Some act) e =
        let by : UnsureByFilter a old act = steps_unsure_act a old act none steps e in
        absurd (in-hand old.phase beat parcel by.cause false here by.fails.phase)

module _ (given : Given) (run most : ℕ) (answers : List OperatorAnswer) (old mid : SiteView) (sound : ReadsImages mid) (told : IsTrue mid.disk.told) (went : Went given run most answers old mid) where
  none-at-start : went.start.notes.unsure_act ≡ None
  none-at-start = ap (λ (n : Notes). n.unsure_act) went.begins.notes

  -- the filter that is full did nothing
  pub full-of : (what : LimitKind) → IsRefusal (error.Limit what) went.to → (h : EndedByFilter went.start went.to) → (needed : ℕ) × (h.error ≡ act_error.Full needed)
  full-of what is h = full h.error h.v h.parcel h.old went.to h.cause what h.fails.why
      (same-cause given run most answers old mid sound told went h.cause (past what) false is.lacks
      (sym h.fails.phase ∙ is.phase ∙ ap (λ (c : Cause). refused c is.lacks) (cause-past given run most answers old mid sound told went what is.cause is.is)))

  pub full-does-nothing : (h : EndedByFilter went.start went.to) (needed : ℕ) → h.error ≡ act_error.Full needed → DoesNothing h.old went.to
  full-does-nothing h needed e = subst (λ (x : ActError). Unsures x h.parcel h.v h.old went.to) e h.fails.notes

  -- no act is unsure
  pub past-unsure : (what : LimitKind) → IsRefusal (error.Limit what) went.to → went.to.notes.unsure_act ≡ None
  past-unsure what is = go went.sums.unbroken.filters
    where
      go : AreFiltersSure went.to ⊎ EndedByFilter went.start went.to → went.to.notes.unsure_act ≡ None
      go (inl sure) = sure.sure
      go (inr h) =
          let found = full-of what is h in
          ap (λ (n : Notes). n.unsure_act) (full-does-nothing h found.0 found.1).notes
          ∙ none-unsure went.start h.old h.beat h.parcel none-at-start h.before h.fails.holds_command.phase

  pub sure-acts : (agent : ℕ) (v : ActuatorView) (image : List ℕ) → went.to.notes.unsure_act ≡ None → HoldsActsWithUnsure agent v.acts went.to.notes.unsure_act image → HoldsActs v.acts image
  sure-acts agent v image none h = subst (λ (o : Option (ℕ × Act)). HoldsActsWithUnsure agent v.acts o image) none h

  -- so each filter's file holds its acts
  abbrev pub stands-there : went.to.notes.unsure_act ≡ None → (agent : ℕ) → 1 ≤ agent → (v : ActuatorView) → slice_get went.to.filters (agent - 1) ≡ Some v
      → HoldsFilter given run most answers old mid sound told went agent
  stands-there none agent low v there =
      let w = went.to in
      let filter : FilterStands w (suc (agent - 1)) v = went.sums.filters.each (agent - 1) v there in
      let same : suc (agent - 1) ≡ agent = omega (arith, low) in
      let stands : FilterStands w agent v = subst (λ (n : ℕ). FilterStands w n v) same filter in
      record {
        v = v;
        there = there;
        history = stands.ready.history;
        holds = subst (λ (s : SiteView). HoldsActs v.acts (s.disk.reads agent)) went.to_is (sure-acts agent v (w.site.disk.reads agent) none
            (stands.holds (told-there given run most answers old mid sound told went) (w.site.disk.reads agent)
            ((sound-there given run most answers old mid sound told went).reads agent (told-there given run most answers old mid sound told went))));
      }

  pub stands-filter : went.to.notes.unsure_act ≡ None → (agent : ℕ) → IsAgent agent → HoldsFilter given run most answers old mid sound told went agent
  stands-filter none agent is_agent =
      let all : length went.to.filters ≡ 16 = went.sums.grow.many ∙ went.files.others.many in
      let found = there-at given run most answers old mid sound told went went.to.filters (agent - 1) (omega (arith, is_agent.0, is_agent.1, all)) in
      stands-there none agent is_agent.0 found.0 found.1

  -- none is damaged
  pub past-whole : (what : LimitKind) → IsRefusal (error.Limit what) went.to → (agent place : ℕ) → IsAgent agent → IsDamaged (mid.disk.reads agent) place → ⊥
  past-whole what is agent place is_agent damaged =
      let h = stands-filter (past-unsure what is) agent is_agent in
      acts_undamaged (mid.disk.reads agent) h.v.acts place (acts_of_layout (mid.disk.reads agent) h.v.acts h.history.ranges h.holds) h.history.are damaged
