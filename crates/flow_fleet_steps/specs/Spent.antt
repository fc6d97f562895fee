-- Promise: What a fleet uses up, so that it ends.
use Rattle.std.specs.Prelude.{◌≡◌, ◌≢◌, ℕ, suc, ◌+◌, ◌*◌, ◌≤◌, true, length}
use Rattle.flow_core_rules.specs.Changes.{is_in_time}
use Rattle.flow_world_steps.specs.EngineView.{EngineView}
use Rattle.flow_world_steps.specs.Spent.{all_acts, all_counts, place}
use Rattle.flow_world_steps.specs.Sums.{total}
use Rattle.flow_world_steps.specs.Worlds.{IsGoing, opened}
use Rattle.flow_fleet_steps.specs.Steps.{FleetSteps}
use Rattle.flow_fleet_steps.specs.Steps.FleetSteps.{nothing, and_then}
use Rattle.flow_fleet_steps.specs.Worlds.{EachRun, FleetWorld}

-- records, and puts of open issues, of one run; a record may end an issue, which was put nine times at most, so it weighs ten
abbrev pub spent_by : EngineView → ℕ
spent_by v = 10 * length v.history.records + all_counts v.puts

-- those of all runs, acts, parcels that changed nothing, and time
abbrev pub fleet_spent : FleetWorld → ℕ
fleet_spent w = total spent_by w.engines + all_acts w.filters + w.notes.ignored + w.site.clock.now

abbrev pub fleet_progress : FleetWorld → ℕ
fleet_progress w = 4 * fleet_spent w + place w.phase

-- once the clock was asked at the opening, a record of each run may come now
abbrev pub FleetInTime : FleetWorld → Type 0
FleetInTime w = IsGoing w.phase → w.phase ≢ opened → EachRun w.engines (λ place v. is_in_time v.history.seen w.site.clock.now ≡ true)

abbrev pub EachFleetInTime : Type 0
EachFleetInTime = (a b : FleetWorld) → FleetInTime a → FleetSteps a b → FleetInTime b

-- how many steps there are
abbrev pub many : {a b : FleetWorld} → FleetSteps a b → ℕ
many nothing = 0
many (and_then steps step) = suc (many steps)

-- Each step of a fleet that goes on makes progress: so there are no more steps than the progress that they made.
abbrev pub EachFleetSpends : Type 0
EachFleetSpends = (a b : FleetWorld) → FleetInTime a → (steps : FleetSteps a b) → IsGoing b.phase → many steps + fleet_progress a ≤ fleet_progress b
