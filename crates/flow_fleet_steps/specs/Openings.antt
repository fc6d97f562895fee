-- Promise: The opening of a fleet's files: the journals of its runs by place, then those of the filters in order.
use Rattle.std.specs.Prelude.{◌≡◌, ◌⊎◌, ℕ, ◌+◌, List, [], ◌∷◌, ◌++◌, length, map, None, Some, slice_get}
use Rattle.cacao_site.specs.View.{SiteView}
use Rattle.flow_core_rules.specs.Givens.{Given}
use Rattle.flow_world_steps.specs.EngineView.{EngineView}
use Rattle.slpf_actuator.specs.ActuatorView.{ActuatorView}
use Rattle.flow_world_steps.specs.Worlds.{opened}
use Rattle.flow_fleet_sessions.specs.Openings.{IsJournalOpen, OpensFilters, RefusesFilters, RefusesJournal}
use Rattle.flow_fleet_sessions.specs.WorldError.{WorldError}
use Rattle.flow_world_steps.specs.Sides.{AreFilters}
use Rattle.flow_fleet_laws.specs.Views.{seen_from}
use Rattle.flow_fleet_steps.specs.Errors.{fleet_refusal}
use Rattle.flow_fleet_steps.specs.Turns.{StandsAt}
use Rattle.flow_fleet_steps.specs.Worlds.{EachRun, FleetWorld, Own, Shared}
use Rattle.flow_fleet_steps.specs.declared.error.FleetError.{FleetError}

-- the runs of a fleet, by place: each one's number, and what it is given
abbrev pub Runs : Type 0
Runs = List (ℕ × Given)

abbrev pub numbers : Runs → List ℕ
numbers runs = map (λ run. run.0) runs

-- the journals at places below n were opened, in order, each as its run sees the rack
pub data OpensJournals (runs : Runs) (start : SiteView) : ℕ → SiteView → List EngineView → Type 0 where
  nothing : OpensJournals runs start 0 start []
  and_then : {n : ℕ} {old new : SiteView} {before : List EngineView} (run : ℕ) (given : Given) (v : EngineView)
      → OpensJournals runs start n old before → slice_get runs n ≡ Some (run, given)
      → IsJournalOpen given run (seen_from n old) (seen_from n new) v → OpensJournals runs start (n + 1) new (before ++ v ∷ [])

-- the journal at this place could not be opened; those at lower places were
pub record RefusesJournalAt (error : FleetError) (runs : Runs) (start new : SiteView) : Type 0 where
  pub place : ℕ
  pub middle : SiteView
  pub engines : List EngineView
  pub before : OpensJournals runs start place middle engines
  pub run : ℕ
  pub given : Given
  pub there : slice_get runs place ≡ Some (run, given)
  pub why : WorldError
  pub refuses : RefusesJournal why given run (seen_from place middle) (seen_from place new)
  pub is : error ≡ fleet_refusal place run why

-- all files are open
pub record AreFleetOpen (runs : Runs) (start new : SiteView) (engines : List EngineView) (filters : List ActuatorView) : Type 0 where
  pub middle : SiteView
  pub journals : OpensJournals runs start (length runs) middle engines
  pub others : OpensFilters 16 middle new filters

-- the journals are open, and a filter's file is not
pub record RefusesFilterOf (error : FleetError) (runs : Runs) (start new : SiteView) : Type 0 where
  pub middle : SiteView
  pub engines : List EngineView
  pub journals : OpensJournals runs start (length runs) middle engines
  pub why : WorldError
  pub refuses : RefusesFilters why middle new
  pub is : error ≡ fleet_refusal 0 0 why

-- a fleet that may append so many records, and has done nothing
abbrev pub blank_shared : ℕ → Shared
blank_shared most = record { left = most; turn = 0; acted = []; unsure_act = None; ignored = 0; asked = None }

abbrev pub blank_own : ℕ → Own
blank_own place = record { put = []; unsure = None }

-- a world where a fleet begins: the journals of these runs, each with what it was given, and the files of all filters are open
pub record IsFleetOpened (w : FleetWorld) (runs : Runs) (most : ℕ) : Type 0 where
  pub phase : w.phase ≡ opened
  pub many : length w.engines ≡ length runs
  pub stands : EachRun w.engines (StandsAt w.site)
  pub of_runs : (place : ℕ) (v : EngineView) → slice_get w.engines place ≡ Some v
      → slice_get runs place ≡ Some (v.history.seen.run, v.history.seen.given)
  pub no_puts : EachRun w.engines (λ place v. v.puts ≡ [])
  pub filters : AreFilters w.filters w.site
  pub own : w.own ≡ blank_own
  pub notes : w.notes ≡ blank_shared most

-- the first file that could not be opened, and why
abbrev pub RefusesFleetOpening : FleetError → Runs → SiteView → SiteView → Type 0
RefusesFleetOpening error runs start new = RefusesJournalAt error runs start new ⊎ RefusesFilterOf error runs start new
