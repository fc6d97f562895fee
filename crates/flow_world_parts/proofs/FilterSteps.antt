-- Where a command that is handed to its filter leads.
use Rattle.std.proofs.Common.{◌≡◌, inl, inr, ℕ, zero, suc, ◌+◌, ◌-◌, false, List, [], ◌∷◌, ◌++◌, refl, sym, ◌∙◌, ap, arith}
use Rattle.std.specs.Prelude.{Some, IsTrue, slice_get, slice_set}
use Rattle.cacao_site.specs.Sound.{IsSound}
use Rattle.cacao_site.specs.View.{SiteView}
use Rattle.cacao_site.specs.declared.parcel.Parcel.{Parcel}
use Rattle.flow_world_steps.specs.LimitKind.TheVariants as limit
use Rattle.flow_world_steps.specs.EngineView.{EngineView}
use Rattle.flow_world_steps.specs.Images.{HasBegun}
use Rattle.slpf_actuator.specs.ActuatorCalls.{Acts, Offers, Refuses, Repeats}
use Rattle.slpf_actuator.specs.ActuatorView.{ActuatorView, act_for}
use Rattle.slpf_actuator.specs.declared.error.ActError.{ActError}
use Rattle.slpf_actuator.specs.declared.error.ActError.TheVariants as act_error
use Rattle.flow_world_steps.specs.Sides.{IsFilter, IsUp}
use Rattle.flow_world_steps.specs.Steps.{DoesNothing, HoldsCommand, IsActCause as IsStepCause, IsAddressed, MayHaveActed, Unsures}
use Rattle.flow_world_steps.specs.Steps.Step.{acts_on, repeats_reply, fails_to_act}
use Rattle.flow_world_steps.specs.Steps.Steps.{nothing, and_then}
use Rattle.flow_world_steps.specs.Worlds.{Cause, Notes, disk_failed, holds, past, refused, wants_memory}
use Rattle.flow_world_steps.proofs.Records.{has_records}
use Rattle.flow_world_parts.specs.Acting.{IsActCause}
use Rattle.flow_world_parts.specs.Closes.{refusal_of}
use Rattle.flow_world_parts.specs.Errors.{act_refusal}
use Rattle.flow_world_parts.specs.Leads.{FiltersGo, FiltersRefuse, RefusesAt, at}
use Rattle.flow_world_parts.specs.declared.error.WorldError.{WorldError}

-- a list with its own element put in its place
pub set_same : {T : Type 0} (xs : List T) (k : ℕ) (x : T) → slice_get xs k ≡ Some x → slice_set xs k x ≡ xs
set_same [] k x is = absurd (cc)
set_same (y ∷ ys) zero x is = let e : y ≡ x = cc in ap (λ z. z ∷ ys) (sym e)
set_same (y ∷ ys) (suc k) x is = ap (λ zs. y ∷ zs) (set_same ys k x is)

-- a run that has begun
pub has_begun : (v : EngineView) (site : SiteView) → IsUp v site → IsTrue site.disk.told → HasBegun site site.disk.beat
has_begun v site up told image left = record { records = v.history.records; are = has_records v site up.has_file told image left; so = up.begun }

module _ (beat : ℕ) (parcel : Parcel) (so sn : SiteView) (fs gs : List ActuatorView) (v w : ActuatorView) (sound : IsSound so) (addressed : IsAddressed parcel) (command : parcel.back ≡ false)
    (there : slice_get fs (parcel.agent - 1) ≡ Some v) (filter : IsFilter v parcel.agent so) (begun : IsTrue so.disk.told → HasBegun so so.disk.beat) (is : gs ≡ slice_set fs (parcel.agent - 1) w) where
  holds_it : (e : EngineView) (notes : Notes) → HoldsCommand beat parcel v (at so e fs notes (holds beat parcel))
  holds_it e notes = record { phase = refl; addressed = addressed; command = command; sound = sound; there = there; filter = filter; begun = begun }

  pub acted_so : IsSound sn → Acts v w parcel so.clock.now so sn → IsFilter w parcel.agent sn → FiltersGo 0 beat parcel so fs sn gs
  acted_so sound_after acts after e notes calm = record {
    notes = record notes { acted = notes.acted ++ (parcel.agent, act_for v.acts parcel so.clock.now) ∷ [] };
    steps = and_then nothing (acts_on beat parcel v w (record {
      holds_command = holds_it e notes;
      acts = acts;
      filter = after;
      sound = sound_after;
      engine = refl;
      filters = is;
      notes = refl;
      phase = refl;
    }));
    left = refl;
    answers = refl;
    ignored = omega arith;
  }

  pub repeated_so : Repeats v w parcel so sn → FiltersGo 1 beat parcel so fs sn gs
  repeated_so repeats e notes calm = record {
    notes = record notes { ignored = notes.ignored + 1 };
    steps = and_then nothing (repeats_reply beat parcel v w (record {
      holds_command = holds_it e notes;
      repeats = repeats;
      ignores = record { calm = omega (arith, calm); engine = refl; filters = same; notes = refl; phase = refl };
    }));
    left = refl;
    answers = refl;
    ignored = refl;
  }
    where
      same : gs ≡ fs
      same = is ∙ ap (λ x. slice_set fs (parcel.agent - 1) x) repeats.view ∙ set_same fs (parcel.agent - 1) v there

  -- the notes behind a refusal: the act may stand in the file where it was offered
  abbrev with_act : Notes → Notes
  with_act notes = record notes { unsure_act = Some (parcel.agent, act_for v.acts parcel so.clock.now) }

  did_nothing : (e : EngineView) (notes : Notes) (cause : Cause) → sn ≡ so → DoesNothing (at so e fs notes (holds beat parcel)) (at sn e gs notes (refused cause false))
  did_nothing e notes cause same = record { site = same; notes = refl }

  may_have : (e : EngineView) (notes : Notes) (cause : Cause) → Offers v parcel so.clock.now so sn
      → MayHaveActed parcel v (at so e fs notes (holds beat parcel)) (at sn e gs (with_act notes) (refused cause false))
  may_have e notes cause offers = record { offers = offers; notes = refl }

  refuses_as : (error : ActError) (cause : Cause) (said : WorldError) (e : EngineView) (notes after : Notes) → said ≡ refusal_of cause → Refuses v w parcel so.clock.now error so sn
      → IsStepCause error v parcel (at so e fs notes (holds beat parcel)) (at sn e gs after (refused cause false)) cause
      → Unsures error parcel v (at so e fs notes (holds beat parcel)) (at sn e gs after (refused cause false)) → RefusesAt said sn (at so e fs notes (holds beat parcel))
  refuses_as error cause said e notes after is_said refuses why unsure = record {
    to = at sn e gs after (refused cause false);
    steps = and_then nothing (fails_to_act beat parcel v w error cause (record {
      holds_command = holds_it e notes;
      refuses = refuses;
      why = why;
      engine = refl;
      filters = is;
      notes = unsure;
      phase = refl;
    }));
    left_is = refl;
    refuses = record { cause = cause; lacks = false; phase = refl; is = is_said };
  }

  pub refused_so : (error : ActError) → Refuses v w parcel so.clock.now error so sn → IsActCause error v parcel so.clock.now so sn → FiltersRefuse (act_refusal error) beat parcel so fs sn
  refused_so act_error.Disk refuses rose e notes = refuses_as act_error.Disk disk_failed _ e notes (with_act notes) refl refuses (rose, refl) (may_have e notes disk_failed refuses.site)
  refused_so (act_error.Full needed) refuses over e notes = refuses_as (act_error.Full needed) (past limit.Journal) _ e notes notes refl refuses (over, refl) (did_nothing e notes (past limit.Journal) refuses.site)
  refused_so act_error.Memory refuses free e notes = elim refuses.site [
    | inl same ↦ refuses_as act_error.Memory wants_memory _ e notes notes refl refuses refl (inl (did_nothing e notes wants_memory same))
    | inr offers ↦ refuses_as act_error.Memory wants_memory _ e notes (with_act notes) refl refuses refl (inr (may_have e notes wants_memory offers))
  ]
  refused_so (act_error.Damaged place) refuses none e notes = absurd none
  refused_so act_error.Broken refuses none e notes = absurd none
