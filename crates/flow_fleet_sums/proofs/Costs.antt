-- Device calls of a fleet: those of the disk and of `say`, and those of the disk alone.
use Rattle.std.proofs.Common.{◌≡◌, ℕ, ◌+◌, ◌-◌, ◌≤◌, List, length, refl, ◌∙◌, ap, arith}
use Rattle.std.specs.Prelude.{Some, slice_get}
use Rattle.run_journal.specs.Durable.{header_calls}
use Rattle.flow_engine.specs.EngineView.{EngineView}
use Rattle.run_records.specs.declared.act.Act.{Act}
use Rattle.slpf_actuator.specs.ActuatorView.{ActuatorView}
use Rattle.flow_world_steps.specs.Sums.{Costs, if_going, slack, total}
use Rattle.flow_world_steps.specs.Steps.Steps.{nothing as no_step, and_then as then_step}
use Rattle.flow_world_steps.specs.Worlds.{IsGoing, Phase, holds, looked, opened, owes, refused, rests, waits}
use Rattle.flow_world_steps.proofs.Costs.{steps_cost, sum_part, sum_set}
use Rattle.flow_fleet_steps.specs.Steps.{FleetSteps}
use Rattle.flow_fleet_steps.specs.Steps.FleetSteps.{nothing, and_then}
use Rattle.flow_fleet_steps.specs.Worlds.{FleetWorld, Own, part}
use Rattle.flow_fleet_steps.proofs.Spending.{fleet_step_going}
use Rattle.flow_fleet_sums.specs.Sums.{FleetCosts, headers, records_of}
use Rattle.flow_fleet_sums.proofs.StepKinds.{IsQuiet, Kind, NoRun, OneRun, kind_of}
use Rattle.flow_fleet_sums.proofs.StepKinds.Kind.{filter, puts, quiet, tries}

-- ---- phases

pub at_most : (p : Phase) (n : ℕ) → if_going p n ≤ n
at_most opened n = omega arith
at_most rests n = omega arith
at_most looked n = omega arith
at_most owes n = omega arith
at_most (holds beat parcel) n = omega arith
at_most (waits due) n = omega arith
at_most (refused cause lacks) n = omega arith

pub all_of : (p : Phase) (n : ℕ) → IsGoing p → if_going p n ≡ n
all_of opened n g = refl
all_of rests n g = refl
all_of looked n g = refl
all_of owes n g = refl
all_of (holds beat parcel) n g = refl
all_of (waits due) n g = absurd g
all_of (refused cause lacks) n g = absurd g

pub more_of : (p : Phase) (n k : ℕ) → if_going p (n + k) ≤ if_going p n + k
more_of opened n k = omega arith
more_of rests n k = omega arith
more_of looked n k = omega arith
more_of owes n k = omega arith
more_of (holds beat parcel) n k = omega arith
more_of (waits due) n k = omega arith
more_of (refused cause lacks) n k = omega arith

pub slack_of : (p : Phase) → IsGoing p → slack p ≡ 0
slack_of opened g = refl
slack_of rests g = refl
slack_of looked g = refl
slack_of owes g = refl
slack_of (holds beat parcel) g = refl
slack_of (waits due) g = absurd g
slack_of (refused cause lacks) g = absurd g

-- ---- one step

abbrev calls_of : EngineView → ℕ
calls_of v = header_calls v.history.prepared

abbrev filter_calls : FleetWorld → ℕ
filter_calls w = total (λ (v : ActuatorView). header_calls v.prepared) w.filters

-- what one run's call takes is what it takes of all
lifted : (old new : FleetWorld) (at : ℕ) (v w : EngineView) (own was : Own) → slice_get old.engines at ≡ Some v → total calls_of new.engines + calls_of v ≡ total calls_of old.engines + calls_of w
    → total records_of new.engines + records_of v ≡ total records_of old.engines + records_of w → IsGoing old.phase → Costs (part at v was old) (part at w own new) → FleetCosts old new
lifted old new at v w own was there sums records going costs =
    let part_of = sum_part calls_of old.engines at v there in
    let rest : ℕ = total calls_of old.engines - calls_of v in
    let all : total calls_of new.engines + filter_calls new ≡ calls_of w + filter_calls new + rest = omega (arith, sums, part_of) in
    let same = ap (λ (n : ℕ). if_going new.phase n) all in
    let more = more_of new.phase (calls_of w + filter_calls new) rest in
    let before = all_of old.phase (calls_of v + filter_calls old) going in
    let before_all = all_of old.phase (headers old) going in
    record {
      calls = omega (arith, part_of, same, more, before, before_all, records, costs.calls);
      disk = omega (arith, part_of, same, more, before, before_all, records, costs.disk);
    }

one_costs : (old new : FleetWorld) (at : ℕ) (v w : EngineView) (own : Own) → OneRun old new at v w own → IsGoing old.phase → FleetCosts old new
one_costs old new at v w own is going =
    lifted old new at v w own (old.own at) is.there
    (ap (λ (n : ℕ). n + calls_of v) (ap (λ (l : List EngineView). total calls_of l) is.engines) ∙ sum_set calls_of old.engines at v w is.there)
    (ap (λ (n : ℕ). n + records_of v) (ap (λ (l : List EngineView). total records_of l) is.engines) ∙ sum_set records_of old.engines at v w is.there) going (steps_cost _ _ (then_step no_step is.step))

no_run_costs : (old new : FleetWorld) (v : EngineView) → NoRun old new v → IsGoing old.phase → FleetCosts old new
no_run_costs old new v is going =
    lifted old new 0 v v (old.own 0) (old.own 0) is.there (ap (λ (l : List EngineView). total calls_of l + calls_of v) is.engines) (ap (λ (l : List EngineView). total records_of l + records_of v) is.engines) going
    (steps_cost _ _ (then_step no_step is.step))

quiet_costs : (old new : FleetWorld) → IsQuiet old new → IsGoing old.phase → FleetCosts old new
quiet_costs old new is going =
    let engines = ap (λ (l : List EngineView). total calls_of l) is.sides.engines in
    let filters = ap (λ (l : List ActuatorView). total (λ (v : ActuatorView). header_calls v.prepared) l) is.sides.filters in
    let records = ap (λ (l : List EngineView). total records_of l) is.sides.engines in
    let acted = ap (λ (l : List (ℕ × Act)). length l) is.acted in
    let most = at_most new.phase (headers new) in
    let before = all_of old.phase (headers old) going in
    record {
      calls = omega (arith, engines, filters, records, acted, most, before, is.calls);
      disk = omega (arith, engines, filters, records, acted, most, before, is.disk);
    }

kind_costs : (old new : FleetWorld) → Kind old new → IsGoing old.phase → FleetCosts old new
kind_costs old new (tries place v w own IsNext is try) going = one_costs old new place v w own is going
kind_costs old new (puts place issue v w own is put) going = one_costs old new place v w own is going
kind_costs old new (filter v is did) going = no_run_costs old new v is going
kind_costs old new (quiet is) going = quiet_costs old new is going

pub fleet_steps_cost : (a b : FleetWorld) → FleetSteps a b → FleetCosts a b
fleet_steps_cost a b nothing = record { calls = omega arith; disk = omega arith }
fleet_steps_cost a b (and_then {mid} steps step) =
    let going = fleet_step_going mid b step in
    let p = fleet_steps_cost a mid steps in
    let q = kind_costs mid b (kind_of mid b step) going in
    let none = slack_of mid.phase going in
    record { calls = omega (arith, p.calls, q.calls, none); disk = omega (arith, p.disk, q.disk, none) }
