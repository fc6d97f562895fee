-- Promise: What the files of a fleet hold at its last world.
use Rattle.std.specs.Prelude.{ℕ, ◌≤◌, length, IfSome}
use Rattle.cacao_site.specs.View.{SiteView}
use Rattle.run_records.specs.Ranges.{ActInRange, InRange}
use Rattle.flow_engine.specs.EngineView.{EngineView}
use Rattle.flow_world_steps.specs.Ready.{FiltersStand, JournalStands}
use Rattle.flow_fleet_steps.specs.Laws.{FleetWent}
use Rattle.flow_fleet_steps.specs.Openings.{Runs}
use Rattle.flow_fleet_steps.specs.Worlds.{EachRun, FleetWorld, Own, part}
use Rattle.flow_fleet.specs.Fleets.{AreFleetRuns}

-- Each image of each run's journal stands for its records, or for these and one that may stand behind them; that of each filter's file
-- for its acts, or for these and one more.
pub record FilesStand (w : FleetWorld) : Type 0 where
  pub few : length w.engines ≤ 16
  pub journals : EachRun w.engines (λ place v. JournalStands (part place v (w.own place) w))
  pub filters : (v : EngineView) (own : Own) → FiltersStand (part 0 v own w)
  pub record_range : EachRun w.engines (λ place v. IfSome (w.own place).unsure InRange)
  pub act_range : IfSome w.notes.unsure_act (λ e. ActInRange e.1)

-- So it is of each fleet that opened its files, however it ends.
abbrev pub EachFleetStands : Type 0
EachFleetStands = (runs : Runs) (most : ℕ) (old new : SiteView) → AreFleetRuns runs → (went : FleetWent runs most old new) → FilesStand went.to
