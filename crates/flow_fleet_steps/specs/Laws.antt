-- Promise: Laws of a fleet: it closes in one way only, and each of its runs keeps agreement.
use Rattle.std.specs.Prelude.{◌≡◌, ◌⊎◌, ℕ, List, IsSome, IsTrue}
use Rattle.cacao_site.specs.Sound.{IsSound}
use Rattle.cacao_site.specs.View.{SiteView}
use Rattle.flow_world_steps.specs.EngineView.{EngineView}
use Rattle.slpf_actuator.specs.ActuatorView.{ActuatorView}
use Rattle.flow_fleet_laws.specs.Events.{Events}
use Rattle.flow_fleet_laws.specs.Fleets.{AreRuns, IsFleetStart, KeepsEach}
use Rattle.flow_fleet_laws.specs.Shrinking.{OnlyShrinks}
use Rattle.flow_fleet_laws.specs.Speeches.Form.{with_numbers}
use Rattle.flow_fleet_steps.specs.Closes.{IsFleetClose, IsFleetRefusal}
use Rattle.flow_fleet_steps.specs.Openings.{AreFleetOpen, IsFleetOpened, RefusesFleetOpening, Runs, numbers}
use Rattle.flow_fleet_steps.specs.Steps.{FleetSteps}
use Rattle.flow_fleet_steps.specs.Worlds.{FleetWorld}
use Rattle.flow_fleet_steps.specs.declared.close.FleetClose.{FleetClose}
use Rattle.flow_fleet_steps.specs.declared.error.FleetError.{FleetError}

-- ---- ends

-- a fleet closes in one way only
abbrev pub ClosesAreOne : Type 0
ClosesAreOne = (w : FleetWorld) (one other : FleetClose) → IsFleetClose one w → IsFleetClose other w → one ≡ other

-- and where it closes it does not refuse
abbrev pub ClosesAreNoRefusals : Type 0
ClosesAreNoRefusals = (w : FleetWorld) (close : FleetClose) (error : FleetError) → IsFleetClose close w → IsFleetRefusal error w → ⊥

-- ---- agreement

-- All files were opened, and what happened from there on, to the rack as it is now.
pub record FleetWent (runs : Runs) (most : ℕ) (old new : SiteView) : Type 0 where
  pub start : FleetWorld
  pub files : AreFleetOpen runs old start.site start.engines start.filters
  pub begins : IsFleetOpened start runs most
  pub to : FleetWorld
  pub to_is : to.site ≡ new
  pub steps : FleetSteps start to

-- an opening, whole or refused, leaves of each file's images only such as it had
abbrev pub OpeningsShrink : Type 0
OpeningsShrink = (error : FleetError) (runs : Runs) (old new : SiteView) → IsTrue old.disk.told
    → ((engines : List EngineView) (filters : List ActuatorView) → AreFleetOpen runs old new engines filters → OnlyShrinks old new)
    × (RefusesFleetOpening error runs old new → OnlyShrinks old new)

-- a fleet over a rack that tells its files and its parcels, which went on or refused while files were opened, is calls in a row
abbrev pub FleetsAreEvents : Type 0
FleetsAreEvents = (error : FleetError) (runs : Runs) (most : ℕ) (old new : SiteView) → IsSound old → IsTrue old.disk.told
    → IsSome old.link.puts → IsSome old.link.pending → FleetWent runs most old new ⊎ RefusesFleetOpening error runs old new
    → Events with_numbers (numbers runs) old new

-- So, where each run might begin, as it sees the rack, under a fresh number, all agrees for each of them at every beat, with the
-- same acts and the one list of parcels.
abbrev pub FleetsKeepEach : Type 0
FleetsKeepEach = (error : FleetError) (runs : Runs) (most : ℕ) (old new : SiteView) → IsSound old
    → AreRuns with_numbers (numbers runs) → IsFleetStart old (numbers runs)
    → FleetWent runs most old new ⊎ RefusesFleetOpening error runs old new → KeepsEach (numbers runs) old new
