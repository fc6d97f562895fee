-- Promise: What a fleet asks of the clock.
use Rattle.std.specs.Prelude.{◌≡◌, ◌⊎◌, ℕ, ◌≤◌}
use Rattle.run_records.specs.Ranges.{last_moment}
use Rattle.flow_world_steps.specs.Worlds.{opened}
use Rattle.flow_fleet_steps.specs.Steps.{FleetSteps}
use Rattle.flow_fleet_steps.specs.Turns.{ComesNext, last_of}
use Rattle.flow_fleet_steps.specs.Worlds.{FleetWorld}

-- what came next of all runs at a world in between was this moment, within the limit
pub record FleetCameNext (a b : FleetWorld) (moment : ℕ) : Type 0 where
  pub w : FleetWorld
  pub before : FleetSteps a w
  pub after : FleetSteps w b
  pub next : ComesNext w moment
  pub in_time : moment ≤ last_moment

-- The greatest moment that the clock was asked for: what it was; from an opening on, the greatest moment of a last record; or what came
-- next of all runs at a world in between.
abbrev pub FleetAsksOnly : FleetWorld → FleetWorld → Type 0
FleetAsksOnly a b = (b.site.clock.furthest ≤ a.site.clock.furthest)
    ⊎ (((a.phase ≡ opened) × (b.site.clock.furthest ≡ last_of a.engines)) ⊎ FleetCameNext a b b.site.clock.furthest)

abbrev pub EachFleetAsks : Type 0
EachFleetAsks = (a b : FleetWorld) → FleetSteps a b → FleetAsksOnly a b
