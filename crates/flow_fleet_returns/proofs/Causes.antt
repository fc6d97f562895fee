-- Why a fleet ended as it did.
use Rattle.std.proofs.Common.{◌≡◌, inl, inr, ℕ, Bool, refl, sym, ◌∙◌, subst}
use Rattle.cacao_site.specs.View.{SiteView}
use Rattle.flow_world_steps.specs.Worlds.{Cause, Phase, disk_failed, not_said, past, refused, run_used, wants_memory}
use Rattle.flow_fleet_steps.specs.Closes.{IsFleetClose, IsFleetRefusal, IsRefusalFor}
use Rattle.flow_fleet_steps.specs.Laws.{FleetWent}
use Rattle.flow_fleet_steps.specs.Openings.{Runs}
use Rattle.flow_fleet_steps.specs.Worlds.{FleetWorld}
use Rattle.flow_fleet_steps.specs.declared.close.FleetClose.{FleetClose}
use Rattle.flow_fleet_steps.specs.declared.close.FleetClose.TheVariants as close
use Rattle.flow_fleet_steps.specs.declared.error.FleetError.{FleetError}
use Rattle.flow_fleet_returns.specs.Causes.{CountsAsRefused, CountsNone, EachFleetCloseTells, EachFleetRefusalTells, StandsAsClosed}
use Rattle.flow_fleet_returns.proofs.CauseOpenings.{files_none, opening_tells, refused_then, tells_as}
use Rattle.flow_fleet_returns.proofs.ClockSteps.{close_stands, paused_rests, steps_stand}
use Rattle.flow_fleet_returns.proofs.CountSteps.{CountsBy, none_then, steps_count}

module _ (runs : Runs) (most : ℕ) (old new : SiteView) (went : FleetWent runs most old new) where
  began : CountsNone old went.start.site
  began = files_none runs old went.start.site went.start.engines went.start.filters went.files

  counted : CountsBy went.to.phase went.start.site went.to.site
  counted = steps_count went.start went.to went.begins.phase went.steps

  -- what the last phase tells of the steps
  told : (p : Phase) → went.to.phase ≡ p → CountsBy p went.start.site went.to.site
  told p e = subst (λ (x : Phase). CountsBy x went.start.site went.to.site) e counted

  later_tells : (error : FleetError) (cause : Cause) (lacks : Bool) → went.to.phase ≡ refused cause lacks → IsRefusalFor error cause went.to → CountsAsRefused error went.start.site went.to.site
  later_tells error disk_failed lacks e is = tells_as error _ went.start.site went.to.site is (told _ e)
  later_tells error not_said lacks e is = tells_as error _ went.start.site went.to.site is (told _ e)
  later_tells error (run_used agent) lacks e is = tells_as error _ went.start.site went.to.site is.has (told _ e)
  later_tells error (past what) lacks e is = tells_as error _ went.start.site went.to.site is (told _ e)
  later_tells error wants_memory lacks e is = tells_as error _ went.start.site went.to.site is (told _ e)

  refusal_tells : (error : FleetError) → IsFleetRefusal error went.to → CountsAsRefused error old new
  refusal_tells error is = refused_then error old went.start.site new began
      (subst (λ (s : SiteView). CountsAsRefused error went.start.site s) went.to_is (later_tells error is.cause is.lacks is.phase is.is))

  close_none : (how : FleetClose) → IsFleetClose how went.to → CountsNone went.start.site went.to.site
  close_none (close.Ended first) is = told _ is.turn.phase
  close_none close.Paused is = told _ (paused_rests went.to is)
  close_none (close.Waiting due) is = told _ is
  close_none close.Flooded is = told _ is.phase
  close_none (close.Asked run issue) is = told _ is.idle.has_looked.phase

  close_counts : (how : FleetClose) → IsFleetClose how went.to → CountsNone old new
  close_counts how is = none_then old went.start.site new began (subst (λ (s : SiteView). CountsNone went.start.site s) went.to_is (close_none how is))

  close_clock : (how : FleetClose) → IsFleetClose how went.to → StandsAsClosed how new.clock
  close_clock how is = subst (λ (s : SiteView). StandsAsClosed how s.clock) went.to_is (close_stands how went.to is (steps_stand went.start went.to went.begins.phase went.steps))

pub refusals_tell : EachFleetRefusalTells
refusals_tell error runs most old new (inl opening) = opening_tells error runs old new opening
refusals_tell error runs most old new (inr later) = refusal_tells runs most old new later.went error later.refuses

pub closes_tell : EachFleetCloseTells
closes_tell how runs most old new is = record { counts = close_counts runs most old new is.went how is.closes; clock = close_clock runs most old new is.went how is.closes }
