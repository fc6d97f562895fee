-- Promise: Which lists are the runs of a fleet: 1 to 16 pairs with numbers of their own, each at its place.
use Rattle.std.specs.Prelude.{◌≡◌, ℕ, ◌<◌, ◌^◌, [], ◌∷◌, ◌++◌, length, Contains, Some, slice_get}
use Rattle.flow_core_rules.specs.Givens.{Given}
use Rattle.flow_fleet_laws.specs.Fleets.{AreRuns, IsAt}
use Rattle.flow_fleet_laws.specs.Speeches.Form.{with_numbers}
use Rattle.flow_fleet_steps.specs.Openings.{Runs, numbers}
use Rattle.flow_fleet.specs.Fleets.{AreFleetRuns}

-- one pair is
abbrev pub OneRunIsAFleet : Type 0
OneRunIsAFleet = (run : ℕ) (given : Given) → run < 2 ^ 64 → AreFleetRuns ((run, given) ∷ [])

-- and so are those of a fleet with one pair more at the next place, where there are fewer than 16 and none has its number
abbrev pub OneRunMoreIsAFleet : Type 0
OneRunMoreIsAFleet =
    (runs : Runs) (run : ℕ) (given : Given) → AreFleetRuns runs → length runs < 16 → (Contains (numbers runs) run → ⊥) → run < 2 ^ 64
    → AreFleetRuns (runs ++ (run, given) ∷ [])

-- the run of a pair has the place of the pair, and only that
pub record HasItsPlace (runs : Runs) (place run : ℕ) : Type 0 where
  pub at : IsAt (numbers runs) place run
  pub only : (other : ℕ) → IsAt (numbers runs) other run → other ≡ place

abbrev pub PairsHaveTheirPlaces : Type 0
PairsHaveTheirPlaces =
    (runs : Runs) (place run : ℕ) (given : Given) → AreFleetRuns runs → slice_get runs place ≡ Some (run, given)
    → HasItsPlace runs place run

-- and at the place of a run stands its pair
abbrev pub PlacesHaveTheirPairs : Type 0
PlacesHaveTheirPairs =
    (runs : Runs) (place run : ℕ) → IsAt (numbers runs) place run → (given : Given) × (slice_get runs place ≡ Some (run, given))

-- such numbers speak side by side
abbrev pub FleetRunsAreRuns : Type 0
FleetRunsAreRuns = (runs : Runs) → AreFleetRuns runs → AreRuns with_numbers (numbers runs)
