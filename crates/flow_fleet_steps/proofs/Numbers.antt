-- The numbers of a fleet's runs, read off their engines.
use Rattle.std.proofs.Common.{◌≡◌, ℕ, zero, suc, List, [], ◌∷◌, length, refl, sym, ◌∙◌, ap, arith}
use Rattle.std.specs.Prelude.{Some, map, slice_get, slice_set}
use Rattle.flow_core_rules.specs.Givens.{Given}
use Rattle.flow_world_steps.specs.EngineView.{EngineView}
use Rattle.flow_fleet_laws.specs.Fleets.{IsAt}
use Rattle.flow_fleet_steps.specs.Openings.{Runs, numbers}
use Rattle.flow_fleet_steps.proofs.Records.{AreRunsOf}
use Rattle.flow_laws.proofs.Basics.{same_some}

abbrev pub run_number : EngineView → ℕ
run_number v = v.history.seen.run

abbrev pub runs_of : List EngineView → List ℕ
runs_of engines = map run_number engines

pub at_place : (engines : List EngineView) (place : ℕ) (v : EngineView) → slice_get engines place ≡ Some v → IsAt (runs_of engines) place (run_number v)
at_place [] place v there = absurd (cc)
at_place (x ∷ engines) zero v there = ap Some (ap run_number (same_some there))
at_place (x ∷ engines) (suc place) v there = at_place engines place v there

pub are_runs_of : (engines : List EngineView) → AreRunsOf (runs_of engines) engines
are_runs_of [] place run at = absurd (cc)
are_runs_of (x ∷ engines) zero run at = record { v = x; there = refl; of_run = same_some at }
are_runs_of (x ∷ engines) (suc place) run at =
    let is = are_runs_of engines place run at in
    record { v = is.v; there = is.there; of_run = is.of_run }

-- one engine goes on, under its number
pub set_same : (engines : List EngineView) (place : ℕ) (v w : EngineView) → slice_get engines place ≡ Some v → run_number w ≡ run_number v
    → runs_of (slice_set engines place w) ≡ runs_of engines
set_same [] place v w there same = absurd (cc)
set_same (x ∷ engines) zero v w there same = ap (λ (n : ℕ). n ∷ runs_of engines) (same ∙ ap run_number (sym (same_some there)))
set_same (x ∷ engines) (suc place) v w there same = ap (λ (l : List ℕ). run_number x ∷ l) (set_same engines place v w there same)

-- the engines were opened for these runs
pub opened_for : (runs : Runs) (engines : List EngineView) → length engines ≡ length runs
    → ((place : ℕ) (v : EngineView) → slice_get engines place ≡ Some v → slice_get runs place ≡ Some (v.history.seen.run, v.history.seen.given))
    → runs_of engines ≡ numbers runs
opened_for [] [] many of = refl
opened_for [] (v ∷ engines) many of = absurd (omega (arith, many))
opened_for (r ∷ runs) [] many of = absurd (omega (arith, many))
opened_for (r ∷ runs) (v ∷ engines) many of =
    let is : r ≡ (v.history.seen.run, v.history.seen.given) = same_some (of 0 v refl) in
    let head : v.history.seen.run ≡ r.0 = sym (ap (λ (x : ℕ × Given). x.0) is) in
    let rest = opened_for runs engines (omega (arith, many)) (λ place w there. of (suc place) w there) in
    ap (λ (n : ℕ). n ∷ runs_of engines) head ∙ ap (λ (l : List ℕ). r.0 ∷ l) rest
