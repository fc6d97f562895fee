-- Promise: No fleet tells damage that began where all agreed.
use Rattle.std.specs.Prelude.{◌≡◌, ℕ, ◌≤◌, IsTrue, Some, length, slice_get}
use Rattle.cacao_site.specs.Sound.{IsSound}
use Rattle.cacao_site.specs.View.{SiteView}
use Rattle.flow_core_rules.specs.Givens.{Given}
use Rattle.flow_laws.specs.Good.{IsGood}
use Rattle.flow_world_laws.specs.Undamaged.{ComesOfTexts}
use Rattle.flow_fleet.specs.Fleets.{FleetRefused}
use Rattle.flow_fleet_laws.specs.Fleets.{IsAt}
use Rattle.flow_fleet_laws.specs.Views.{seen_from}
use Rattle.flow_fleet_steps.specs.Openings.{Runs, numbers}
use Rattle.flow_fleet_steps.specs.declared.error.FleetError.TheVariants as fleet_error

-- what each run is given comes of accepted texts
abbrev pub EachComesOfTexts : Runs → Type 0
EachComesOfTexts runs = (place run : ℕ) (given : Given) → slice_get runs place ≡ Some (run, given) → ComesOfTexts given

-- all that a crash may leave now agrees for each run, as it sees the rack
abbrev pub EachAgrees : Runs → SiteView → Type 0
EachAgrees runs site = (place run : ℕ) → IsAt (numbers runs) place run → IsGood (seen_from place site) site.disk.beat

-- Where it began so, no file of a run or of a filter is damaged.
abbrev pub NoFleetFindsDamage : Type 0
NoFleetFindsDamage =
    (runs : Runs) (most : ℕ) (old new : SiteView) (file place : ℕ) → 1 ≤ length runs → EachComesOfTexts runs
    → IsTrue old.disk.told → EachAgrees runs old → IsSound old → IsSound new
    → FleetRefused (fleet_error.Damaged file place) runs most old new → ⊥
