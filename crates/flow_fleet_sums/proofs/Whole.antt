-- All that a fleet adds up to.
use Rattle.std.proofs.Common.{◌≡◌, ℕ, ◌*◌, ◌≤◌, Bool, true, false, List, [], ◌∷◌, length, ◌∙◌, ap, arith}
use Rattle.run_journal.specs.Durable.{header_bytes, header_calls}
use Rattle.flow_engine.specs.EngineView.{EngineView}
use Rattle.flow_engine.specs.OpenIssues.{OpenIssues, count_of}
use Rattle.slpf_actuator.specs.ActuatorView.{ActuatorView}
use Rattle.flow_world_steps.specs.Sides.{times}
use Rattle.flow_world_steps.specs.Sums.{owed_lines, slack, total}
use Rattle.flow_world_steps.specs.Worlds.{Phase, holds, looked, opened, owes, refused, rests, waits}
use Rattle.flow_world_steps.specs.Written.{act_bytes}
use Rattle.flow_fleet_steps.specs.Openings.{IsFleetOpened, Runs}
use Rattle.flow_fleet_steps.specs.Worlds.{FleetWorld, Own, Shared}
use Rattle.flow_fleet_sums.specs.Sums.{EachFleetAddsUp, FleetPutsAreCounted, bytes_left, headers}
use Rattle.flow_fleet_sums.proofs.Costs.{at_most, fleet_steps_cost}
use Rattle.flow_fleet_sums.proofs.Puts.{fleet_steps_count, fleet_steps_lose, fleet_steps_put}
use Rattle.flow_fleet_sums.proofs.Written.{IsSure, fleet_steps_write}

two_each : (engines : List EngineView) → total (λ (v : EngineView). header_calls v.history.prepared) engines ≤ 2 * length engines
two_each [] = omega arith
two_each (v ∷ engines) = let rest = two_each engines in let one = two v.history.prepared in omega (arith, rest, one)
  where
    two : (b : Bool) → header_calls b ≤ 2
    two true = omega arith
    two false = omega arith

two_filters : (filters : List ActuatorView) → total (λ (v : ActuatorView). header_calls v.prepared) filters ≤ 2 * length filters
two_filters [] = omega arith
two_filters (v ∷ filters) = let rest = two_filters filters in let one = two v.prepared in omega (arith, rest, one)
  where
    two : (b : Bool) → header_calls b ≤ 2
    two true = omega arith
    two false = omega arith

nine_each : (engines : List EngineView) → total (λ (v : EngineView). header_bytes v.history.prepared) engines ≤ 9 * length engines
nine_each [] = omega arith
nine_each (v ∷ engines) = let rest = nine_each engines in let one = nine v.history.prepared in omega (arith, rest, one)
  where
    nine : (b : Bool) → header_bytes b ≤ 9
    nine true = omega arith
    nine false = omega arith

nine_filters : (filters : List ActuatorView) → total (λ (v : ActuatorView). header_bytes v.prepared) filters ≤ 9 * length filters
nine_filters [] = omega arith
nine_filters (v ∷ filters) = let rest = nine_filters filters in let one = nine v.prepared in omega (arith, rest, one)
  where
    nine : (b : Bool) → header_bytes b ≤ 9
    nine true = omega arith
    nine false = omega arith

slack_few : (p : Phase) → slack p ≤ 5
slack_few opened = omega arith
slack_few rests = omega arith
slack_few looked = omega arith
slack_few owes = omega arith
slack_few (holds beat parcel) = omega arith
slack_few (waits due) = omega arith
slack_few (refused cause lacks) = omega arith

-- where a fleet begins nothing was put
counted_first : (a : FleetWorld) (runs : Runs) (most : ℕ) → IsFleetOpened a runs most → FleetPutsAreCounted a
counted_first a runs most is place v there =
    let none : (issue : ℕ) → times issue (a.own place).put ≡ 0 = λ issue. ap (λ (o : ℕ → Own). times issue (o place).put) is.own in
    record {
      few = λ issue. let zero_ = none issue in omega (arith, zero_);
      counted = λ issue it here waiting. let zero_ = none issue in omega (arith, zero_);
      noted = λ issue. let zero_ : count_of v.puts issue ≡ 0 = ap (λ (o : OpenIssues). count_of o issue) (is.no_puts place v there) in omega (arith, zero_);
      later = λ issue past. none issue;
    }

sure_first : (a : FleetWorld) (runs : Runs) (most : ℕ) → IsFleetOpened a runs most → IsSure a
sure_first a runs most is = record { own = λ k. ap (λ (o : ℕ → Own). (o k).unsure) is.own; act = ap (λ (n : Shared). n.unsure_act) is.notes }

pub fleets_add_up : EachFleetAddsUp
fleets_add_up a b runs most is steps =
    let put = fleet_steps_put a b (counted_first a runs most is) steps in
    let adds = put.adds in
    let left : a.notes.left ≡ most = ap (λ (n : Shared). n.left) is.notes in
    let acted : length a.notes.acted ≡ 0 = ap (λ (n : Shared). length n.acted) is.notes in
    let act_ : total act_bytes a.notes.acted ≡ 0 = ap (λ (n : Shared). total act_bytes n.acted) is.notes in
    let free : owed_lines a.phase ≡ 0 = ap owed_lines is.phase in
    let many = is.many in
    let all = is.filters.all in
    let costs = fleet_steps_cost a b steps in
    let at_start = at_most a.phase (headers a) in
    let of_engines = two_each a.engines in
    let of_filters = two_filters a.filters in
    let few = slack_few b.phase in
    let records = adds.all in
    let written = (fleet_steps_write a b (sure_first a runs most is) steps).written in
    record {
      adds = adds;
      budget = adds.budget ∙ left;
      puts_or_lost = fleet_steps_lose a b steps;
      expires = put.expires;
      counted = fleet_steps_count a b (counted_first a runs most is) steps;
      calls = omega (arith, acted, free, many, all, costs.calls, at_start, of_engines, of_filters, few, records);
      disk_calls = omega (arith, acted, many, all, costs.disk, at_start, of_engines, of_filters, few, records);
      written =
          let going = at_most a.phase (bytes_left a) in
          let engines = nine_each a.engines in
          let filters = nine_filters a.filters in
          omega (arith, act_, many, all, written, going, engines, filters);
    }
