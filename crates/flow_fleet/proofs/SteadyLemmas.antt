-- No end of a fleet hides a fault of the disk.
use Rattle.std.proofs.Common.{◌≡◌, ◌≢◌, inl, inr, ℕ, Bool, List, refl, sym, ◌∙◌, subst, ap}
use Rattle.std.specs.Prelude.{Result, Ok, Err, IfOk, IfErr}
use Rattle.cacao_site.specs.View.{SiteView}
use Rattle.flow_engine.specs.EngineView.{EngineView}
use Rattle.slpf_actuator.specs.ActuatorView.{ActuatorView}
use Rattle.flow_world_steps.specs.Steps.{Step}
use Rattle.flow_world_steps.specs.Steps.Step.{begins as one_begins, moves as one_moves, expires as one_expires, puts_first as one_puts_first, resends as one_resends, replies as one_replies}
use Rattle.flow_world_steps.specs.Steps.Step.{acts_on as one_acts_on, repeats_reply as one_repeats, fails_to_act as one_fails_to_act}
use Rattle.flow_world_steps.specs.Steps.Steps.{nothing as no_step, and_then as then_step}
use Rattle.flow_world_steps.specs.Worlds.{Cause, IsGoing, Phase, World, disk_failed, refused}
use Rattle.flow_world_steps.proofs.Steady.{steps_steady}
use Rattle.flow_world_parts.specs.declared.error.WorldError.{WorldError}
use Rattle.flow_fleet_steps.specs.Closes.{IsRefusalFor}
use Rattle.flow_fleet_steps.specs.Errors.{fleet_refusal}
use Rattle.flow_fleet_steps.specs.Laws.{FleetWent}
use Rattle.flow_fleet_steps.specs.Openings.{AreFleetOpen, OpensJournals, RefusesFleetOpening, Runs}
use Rattle.flow_fleet_steps.specs.Openings.OpensJournals.{nothing as no_journal, and_then as one_journal}
use Rattle.flow_fleet_steps.specs.Steps.{FleetStep, FleetSteps}
use Rattle.flow_fleet_steps.specs.Steps.FleetStep.{opens_clock, finds_run_used, asks_clock, finds_late, begins, moves, expires, says, fails_to_say, puts_first, resends}
use Rattle.flow_fleet_steps.specs.Steps.FleetStep.{takes, finds_none, fails_to_take, drops, replies, ignores_reply, acts_on, repeats_reply, fails_to_act, wants_memory_now}
use Rattle.flow_fleet_steps.specs.Steps.FleetSteps.{nothing, and_then}
use Rattle.flow_fleet_steps.specs.Worlds.{FleetWorld}
use Rattle.flow_fleet_steps.specs.declared.close.FleetClose.{FleetClose}
use Rattle.flow_fleet_steps.specs.declared.error.FleetError.{FleetError}
use Rattle.flow_fleet_steps.specs.declared.error.FleetError.TheVariants as fleet_error
use Rattle.flow_fleet_steps.proofs.Closes.{closes_are_no_refusals}
use Rattle.flow_fleet_steps.proofs.Spending.{fleet_step_going}
use Rattle.flow_fleet.specs.Fleets.{FleetClosed, FleetRefused}

-- the fleet did not refuse because the disk failed
abbrev IsOther : Phase → Type 0
IsOther phase = (lacks : Bool) → phase ≢ refused disk_failed lacks

abbrev IsSteady : FleetWorld → FleetWorld → Type 0
IsSteady old new = new.site.disk.faults ≡ old.site.disk.faults

same_site : (old new : FleetWorld) → new.site ≡ old.site → IsSteady old new
same_site old new e = ap (λ (s : SiteView). s.disk.faults) e

-- a step of one run, or of the filters beside one, is steady
one_steady : (a b : World) → Step a b → IsOther b.phase → b.site.disk.faults ≡ a.site.disk.faults
one_steady a b step other = steps_steady a b (then_step no_step step) other

step_steady : (old new : FleetWorld) → FleetStep old new → IsOther new.phase → IsSteady old new
step_steady old new (opens_clock answer is) other = is.goes.reaches.disk.disk.faults
step_steady old new (finds_run_used place agent is) other = same_site old new is.only.site
step_steady old new (asks_clock moment answer is) other = is.goes.reaches.disk.disk.faults
step_steady old new (finds_late moment is) other = same_site old new is.only.site
step_steady old new (begins place is) other = one_steady _ _ (one_begins is.does.does) other
step_steady old new (moves place is) other = one_steady _ _ (one_moves is.does.does) other
step_steady old new (expires place issue is) other = one_steady _ _ (one_expires issue is.does.does) other
step_steady old new (says place v bytes is) other = is.speaks.only.disk.faults
step_steady old new (fails_to_say place v bytes is) other = is.speaks.only.disk.faults
step_steady old new (puts_first place issue is) other = one_steady _ _ (one_puts_first issue is.does.does) other
step_steady old new (resends place issue is) other = one_steady _ _ (one_resends issue is.does.does) other
step_steady old new (takes parcel is) other = is.only.disk.disk.faults
step_steady old new (finds_none is) other = is.only.disk.disk.faults
step_steady old new (fails_to_take is) other = is.only.disk.disk.faults
step_steady old new (drops beat parcel is) other = same_site old new is.site
step_steady old new (replies beat parcel place is) other = one_steady _ _ (one_replies beat parcel is.does.does) other
step_steady old new (ignores_reply beat parcel is) other = same_site old new is.site
step_steady old new (acts_on beat parcel v w is) other = one_steady _ _ (one_acts_on beat parcel v w is.does) other
step_steady old new (repeats_reply beat parcel v w is) other = one_steady _ _ (one_repeats beat parcel v w is.does) other
step_steady old new (fails_to_act beat parcel v w error cause is) other = one_steady _ _ (one_fails_to_act beat parcel v w error cause is.does) other
step_steady old new (wants_memory_now is) other = same_site old new is.only.site

-- what goes on has not refused
going_other : (phase : Phase) → IsGoing phase → IsOther phase
going_other phase going lacks e = subst IsGoing e going

pub fleet_steps_steady : (a b : FleetWorld) → FleetSteps a b → IsOther b.phase → IsSteady a b
fleet_steps_steady a b nothing other = refl
fleet_steps_steady a b (and_then {mid} steps step) other = step_steady mid b step other ∙ fleet_steps_steady a mid steps (going_other mid.phase (fleet_step_going mid b step))

-- ---- the opening

journals_steady : (runs : Runs) (start : SiteView) (n : ℕ) (site : SiteView) (engines : List EngineView) → OpensJournals runs start n site engines → site.disk.faults ≡ start.disk.faults
journals_steady runs start n site engines no_journal = refl
journals_steady runs start many site engines (one_journal {n} {old} {new} {before} run given v was there is) = is.steady ∙ journals_steady runs start n old before was

files_steady : (runs : Runs) (start site : SiteView) (engines : List EngineView) (filters : List ActuatorView) → AreFleetOpen runs start site engines filters → site.disk.faults ≡ start.disk.faults
files_steady runs start site engines filters files = files.others.steady ∙ journals_steady runs start _ files.middle engines files.journals

pub opening_steady : (error : FleetError) (runs : Runs) (old new : SiteView) → RefusesFleetOpening error runs old new → error ≢ fleet_error.Disk → new.disk.faults ≡ old.disk.faults
opening_steady error runs old new (inl first) other =
    first.refuses.steady (λ e. other (first.is ∙ ap (λ (x : WorldError). fleet_refusal first.place first.run x) e)) ∙ journals_steady runs old first.place first.middle first.engines first.before
opening_steady error runs old new (inr second) other =
    second.refuses.refuses.steady (λ e. other (second.is ∙ ap (λ (x : WorldError). fleet_refusal 0 0 x) e)) ∙ second.refuses.before.steady
    ∙ journals_steady runs old _ second.middle second.engines second.journals

-- ---- all

went_steady : (runs : Runs) (most : ℕ) (old new : SiteView) (w : FleetWent runs most old new) → IsOther w.to.phase → new.disk.faults ≡ old.disk.faults
went_steady runs most old new w other =
    ap (λ (s : SiteView). s.disk.faults) (sym w.to_is) ∙ fleet_steps_steady w.start w.to w.steps other ∙ files_steady runs old w.start.site w.start.engines w.start.filters w.files

same_cause : (one other : Cause) (lacks lacked : Bool) → refused one lacks ≡ refused other lacked → one ≡ other
same_cause one other lacks lacked e = cc

pub closes_steady : (close : FleetClose) (runs : Runs) (most : ℕ) (old new : SiteView) → FleetClosed close runs most old new → new.disk.faults ≡ old.disk.faults
closes_steady close runs most old new is = went_steady runs most old new is.went
    (λ lacks e. closes_are_no_refusals is.went.to close fleet_error.Disk is.closes (record { cause = disk_failed; lacks = lacks; phase = e; is = refl }))

pub refusals_steady : (error : FleetError) (runs : Runs) (most : ℕ) (old new : SiteView) → FleetRefused error runs most old new → error ≢ fleet_error.Disk → new.disk.faults ≡ old.disk.faults
refusals_steady error runs most old new (inl opening) other = opening_steady error runs old new opening other
refusals_steady error runs most old new (inr later) other = went_steady runs most old new later.went
    (λ lacks e. other (subst (λ (c : Cause). IsRefusalFor error c later.went.to) (same_cause later.refuses.cause disk_failed later.refuses.lacks lacks (sym later.refuses.phase ∙ e)) later.refuses.is))

-- whatever a fleet answered
pub fleet_steady : (runs : Runs) (most : ℕ) (old new : SiteView) (result : Result FleetClose FleetError) → IfOk result (λ close. FleetClosed close runs most old new)
    → IfErr result (λ error. FleetRefused error runs most old new) → result ≢ Err fleet_error.Disk → new.disk.faults ≡ old.disk.faults
fleet_steady runs most old new (Ok close) closed refused_so other = closes_steady close runs most old new closed
fleet_steady runs most old new (Err error) closed refused_so other = refusals_steady error runs most old new refused_so (λ e. other (ap (λ (x : FleetError). Err x) e))
