-- Promise: How far a whole fleet asks its clock to come.
use Rattle.std.specs.Prelude.{◌≡◌, ◌⊎◌, ℕ, ◌≤◌, List, ◌++◌, Some, slice_get}
use Rattle.std.proofs.Common.{inl, inr}
use Rattle.cacao_site.specs.View.{SiteView}
use Rattle.run_records.specs.Ranges.{last_moment}
use Rattle.run_records.specs.declared.record.Record.{Record}
use Rattle.flow_core_rules.specs.Moves.{due}
use Rattle.flow_core_rules.specs.State.{Shown}
use Rattle.flow_engine_history.specs.Histories.{IsSoFar}
use Rattle.flow_engine.specs.EngineView.{EngineView}
use Rattle.flow_fleet_steps.specs.Openings.{Runs}
use Rattle.flow_fleet_steps.specs.Turns.{last_of}
use Rattle.flow_fleet_steps.specs.Worlds.{FleetWorld}
use Rattle.flow_fleet_steps.specs.declared.close.FleetClose.{FleetClose}
use Rattle.flow_fleet_steps.specs.declared.error.FleetError.{FleetError}
use Rattle.flow_fleet.specs.Fleets.{FleetClosed, FleetRefused}

-- A front of the journal of a run on return, with all that stood there at the start and some of what was added, behind which
-- something was due for the run, no earlier than this moment.
pub record WasDue (a b : FleetWorld) (moment : ℕ) : Type 0 where
  pub place : ℕ
  pub v : EngineView
  pub w : EngineView
  pub there : slice_get a.engines place ≡ Some v
  pub here : slice_get b.engines place ≡ Some w
  pub front : List Record
  pub back : List Record
  pub is : w.history.records ≡ (v.history.records ++ front) ++ back
  pub seen : Shown
  pub so_far : IsSoFar (v.history.records ++ front) seen
  pub run : seen.run ≡ v.history.seen.run
  pub given : seen.given ≡ v.history.seen.given
  pub at : ℕ
  pub due_is : due seen ≡ Some at
  pub no_later : moment ≤ at
  pub in_time : moment ≤ last_moment

-- The greatest moment that the clock was asked for is no later than it was at the start, than the greatest moment of a last record
-- there, or than what was due for one of the runs meanwhile, which is within the limit.
abbrev pub ReachesNoFurther : FleetWorld → FleetWorld → ℕ → ℕ → Type 0
ReachesNoFurther a b before now = (now ≤ before) ⊎ ((now ≤ last_of a.engines) ⊎ WasDue a b now)

-- So it is of a whole fleet that closed, or that refused once its files were open.
abbrev pub EachFleetCloseReaches : Type 0
EachFleetCloseReaches =
    (how : FleetClose) (runs : Runs) (most : ℕ) (old new : SiteView) → (closed : FleetClosed how runs most old new)
    → ReachesNoFurther closed.went.start closed.went.to old.clock.furthest new.clock.furthest

-- while files were opened the clock was not asked
abbrev pub ReachesRefused : {error : FleetError} {runs : Runs} {most : ℕ} {old new : SiteView}
    → FleetRefused error runs most old new → Type 0
ReachesRefused {error} {runs} {most} {old} {new} (inl opening) = new.clock ≡ old.clock
ReachesRefused {error} {runs} {most} {old} {new} (inr later) =
    ReachesNoFurther later.went.start later.went.to old.clock.furthest new.clock.furthest

abbrev pub EachFleetRefusalReaches : Type 0
EachFleetRefusalReaches =
    (error : FleetError) (runs : Runs) (most : ℕ) (old new : SiteView) → (refused : FleetRefused error runs most old new)
    → ReachesRefused refused
