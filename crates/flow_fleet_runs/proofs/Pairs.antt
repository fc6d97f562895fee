-- Lists of runs, one pair after another.
use Rattle.std.proofs.Common.{◌≡◌, ℕ, zero, suc, [], ◌∷◌, ap}
use Rattle.std.specs.Prelude.{Some, slice_get}
use Rattle.flow_core_rules.specs.Givens.{Given}
use Rattle.flow_laws.proofs.Basics.{same_some}
use Rattle.flow_fleet_laws.specs.Fleets.{IsAt}
use Rattle.flow_fleet_steps.specs.Openings.{Runs, numbers}
use Rattle.flow_fleet.proofs.RunsLemmas.{one_more, one_run}
use Rattle.flow_fleet.proofs.WholeLemmas.{are_runs}
use Rattle.flow_fleet_runs.specs.Pairs.{FleetRunsAreRuns, OneRunIsAFleet, OneRunMoreIsAFleet, PairsHaveTheirPlaces, PlacesHaveTheirPairs}

number_at : (runs : Runs) (place : ℕ) (e : ℕ × Given) → slice_get runs place ≡ Some e → IsAt (numbers runs) place e.0
number_at [] place e there = absurd (cc)
number_at (r ∷ runs) zero e there = ap (λ (x : ℕ × Given). Some x.0) (same_some there)
number_at (r ∷ runs) (suc place) e there = number_at runs place e there

pub one_run_is : OneRunIsAFleet
one_run_is run given small = one_run run given small

pub one_run_more_is : OneRunMoreIsAFleet
one_run_more_is runs run given is few fresh small = one_more runs run given is few fresh small

pub pairs_have : PairsHaveTheirPlaces
pairs_have runs place run given are there =
    let at : IsAt (numbers runs) place run = number_at runs place (run, given) there in
    record { at = at; only = λ other is. are.once place other run at is }

pub places_have : PlacesHaveTheirPairs
places_have [] place run is = absurd (cc)
places_have (r ∷ runs) zero run is = (r.1, ap (λ (n : ℕ). Some (n, r.1)) (same_some is))
places_have (r ∷ runs) (suc place) run is = places_have runs place run is

pub fleet_runs_are : FleetRunsAreRuns
fleet_runs_are runs are = are_runs runs are
