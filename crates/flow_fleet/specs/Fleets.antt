-- Promise: A whole fleet, from the opening of its files to its end.
use Rattle.std.specs.Prelude.{◌≡◌, ◌⊎◌, ℕ, ◌<◌, ◌≤◌, ◌^◌, List, length, Some, slice_get}
use Rattle.cacao_site.specs.View.{SiteView}
use Rattle.flow_fleet_steps.specs.Closes.{IsFleetClose, IsFleetRefusal}
use Rattle.flow_fleet_steps.specs.Laws.{FleetWent}
use Rattle.flow_fleet_steps.specs.Openings.{RefusesFleetOpening, Runs, numbers}
use Rattle.flow_fleet_steps.specs.declared.close.FleetClose.{FleetClose}
use Rattle.flow_fleet_steps.specs.declared.error.FleetError.{FleetError}

-- the runs of a fleet: 1 to 16, each with a number of 64 bits that no other has
pub record AreFleetRuns (runs : Runs) : Type 0 where
  pub some : 1 ≤ length runs
  pub few : length runs ≤ 16
  pub small : (place run : ℕ) → slice_get (numbers runs) place ≡ Some run → run < 2 ^ 64
  pub once : (place other run : ℕ) → slice_get (numbers runs) place ≡ Some run → slice_get (numbers runs) other ≡ Some run → other ≡ place

-- it closed so
pub record FleetClosed (close : FleetClose) (runs : Runs) (most : ℕ) (old new : SiteView) : Type 0 where
  pub went : FleetWent runs most old new
  pub closes : IsFleetClose close went.to

-- it refused, with all files open
pub record FleetRefusedLater (error : FleetError) (runs : Runs) (most : ℕ) (old new : SiteView) : Type 0 where
  pub went : FleetWent runs most old new
  pub refuses : IsFleetRefusal error went.to

-- it refused, while files were opened or later
abbrev pub FleetRefused : FleetError → Runs → ℕ → SiteView → SiteView → Type 0
FleetRefused error runs most old new = RefusesFleetOpening error runs old new ⊎ FleetRefusedLater error runs most old new
