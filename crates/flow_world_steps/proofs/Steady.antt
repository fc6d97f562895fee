-- No step counts a fault of the disk but one that refuses because the disk failed.
use Rattle.std.proofs.Common.{◌≡◌, ◌≢◌, ℕ, Bool, false, refl, ◌∙◌, subst, ap}
use Rattle.cacao_site.specs.View.{SiteView}
use Rattle.run_records.specs.declared.record.Record.{Record}
use Rattle.cacao_site.specs.declared.parcel.Parcel.{Parcel}
use Rattle.slpf_actuator.specs.ActuatorView.{ActuatorView}
use Rattle.slpf_actuator.specs.declared.error.ActError.{ActError}
use Rattle.slpf_actuator.specs.declared.error.ActError.TheVariants as act_error
use Rattle.flow_world_steps.specs.Appends.{Tries}
use Rattle.flow_world_steps.specs.Appends.Tries.{done, failed, limited}
use Rattle.flow_world_steps.specs.Causes.{EachSteady}
use Rattle.flow_world_steps.specs.Steps.{FailsToAct, Step}
use Rattle.flow_world_steps.specs.Steps.Step.{opens_clock, finds_run_used, asks_clock, finds_late, begins, moves, upgrades, tells, expires, says, fails_to_say}
use Rattle.flow_world_steps.specs.Steps.Step.{puts_first, resends, takes, finds_none, fails_to_take, drops, replies, ignores_reply, acts_on, repeats_reply, fails_to_act, wants_memory_now}
use Rattle.flow_world_steps.specs.Steps.Steps.{nothing, and_then}
use Rattle.flow_world_steps.specs.Worlds.{Cause, IsGoing, Phase, World, disk_failed, refused}
use Rattle.flow_world_steps.proofs.Ended.{step_going}

-- the session did not refuse because the disk failed
abbrev IsOther : Phase → Type 0
IsOther phase = (lacks : Bool) → phase ≢ refused disk_failed lacks

abbrev IsSteady : World → World → Type 0
IsSteady old new = new.site.disk.faults ≡ old.site.disk.faults

same_site : (old new : World) → new.site ≡ old.site → IsSteady old new
same_site old new e = ap (λ (s : SiteView). s.disk.faults) e

tried_steady : (IsNext : Record → Type 0) (old new : World) → Tries IsNext old new → IsOther new.phase → IsSteady old new
tried_steady IsNext old new (done is) other = is.appends.adds.steady
tried_steady IsNext old new (failed is) other = absurd (other false is.phase)
tried_steady IsNext old new (limited what is) other = same_site old new is.refuses.0.2

failed_steady : (old new : World) (parcel : Parcel) (v w : ActuatorView) (beat : ℕ) (error : ActError) (cause : Cause) → FailsToAct beat parcel v w error cause old new → IsOther new.phase → IsSteady old new
failed_steady old new parcel v w beat act_error.Disk cause is other = absurd (other false (is.phase ∙ ap (λ (c : Cause). refused c false) is.why.1))
failed_steady old new parcel v w beat (act_error.Damaged place) cause is other = is.refuses.steady (λ e. cc)
failed_steady old new parcel v w beat (act_error.Full needed) cause is other = is.refuses.steady (λ e. cc)
failed_steady old new parcel v w beat act_error.Broken cause is other = is.refuses.steady (λ e. cc)
failed_steady old new parcel v w beat act_error.Memory cause is other = is.refuses.steady (λ e. cc)

step_steady : (old new : World) → Step old new → IsOther new.phase → IsSteady old new
step_steady old new (opens_clock answer is) other = is.goes.reaches.disk.disk.faults
step_steady old new (finds_run_used agent is) other = same_site old new is.only.site
step_steady old new (asks_clock moment answer is) other = is.goes.reaches.disk.disk.faults
step_steady old new (finds_late moment is) other = same_site old new is.only.site
step_steady old new (begins is) other = tried_steady _ old new is.tries other
step_steady old new (moves is) other = tried_steady _ old new is.tries other
step_steady old new (upgrades issue told is) other = tried_steady _ old new is.tries other
step_steady old new (tells issue told is) other = tried_steady _ old new is.tries other
step_steady old new (expires issue is) other = tried_steady _ old new is.tries other
step_steady old new (says bytes is) other = is.speaks.only.disk.faults
step_steady old new (fails_to_say bytes is) other = is.speaks.only.disk.faults
step_steady old new (puts_first issue is) other = is.puts.sends.put.disk.disk.faults
step_steady old new (resends issue is) other = is.puts.sends.put.disk.disk.faults
step_steady old new (takes parcel is) other = is.only.disk.disk.faults
step_steady old new (finds_none is) other = is.only.disk.disk.faults
step_steady old new (fails_to_take is) other = is.only.disk.disk.faults
step_steady old new (drops beat parcel is) other = same_site old new is.site
step_steady old new (replies beat parcel is) other = tried_steady _ old new is.tries other
step_steady old new (ignores_reply beat parcel is) other = same_site old new is.site
step_steady old new (acts_on beat parcel v w is) other = is.acts.puts.disk.disk.faults ∙ is.acts.steady
step_steady old new (repeats_reply beat parcel v w is) other = is.repeats.puts.disk.disk.faults
step_steady old new (fails_to_act beat parcel v w error cause is) other = failed_steady old new parcel v w beat error cause is other
step_steady old new (wants_memory_now is) other = same_site old new is.only.site

-- what goes on has not refused
going_other : (phase : Phase) → IsGoing phase → IsOther phase
going_other phase going lacks e = subst IsGoing e going

pub steps_steady : EachSteady
steps_steady a b nothing other = refl
steps_steady a b (and_then {mid} steps step) other =
    step_steady mid b step other ∙ steps_steady a mid steps (going_other mid.phase (step_going mid b step))
