-- Promise: How a fleet came to its end.
use Rattle.std.specs.Prelude.{◌≡◌, ◌↔◌, ℕ, ◌<◌, ◌≤◌, Some}
use Rattle.flow_world_steps.specs.Turns.{most_ignored}
use Rattle.flow_world_steps.specs.Worlds.{IsGoing, waits}
use Rattle.flow_fleet_steps.specs.Closes.{IsFleetClose}
use Rattle.flow_fleet_steps.specs.Openings.{IsFleetOpened, Runs}
use Rattle.flow_fleet_steps.specs.Steps.{FleetStep, FleetSteps}
use Rattle.flow_fleet_steps.specs.Worlds.{FleetWorld}
use Rattle.flow_fleet_steps.specs.declared.close.FleetClose.{FleetClose}
use Rattle.flow_fleet_steps.specs.declared.close.FleetClose.TheVariants as close

-- the last call, from a world that went on
pub record FleetEndedByStep (a b : FleetWorld) : Type 0 where
  pub old : FleetWorld
  pub before : FleetSteps a old
  pub going : IsGoing old.phase
  pub step : FleetStep old b

-- A fleet that refused or waits came to that by one call, which tells why.
abbrev pub EachFleetEnded : Type 0
EachFleetEnded = (a b : FleetWorld) → IsGoing a.phase → FleetSteps a b → (IsGoing b.phase → ⊥) → FleetEndedByStep a b

-- the clock was asked for this moment last, and stands before it
pub record IsFleetShort (w : FleetWorld) (due : ℕ) : Type 0 where
  pub asked : w.site.clock.asked ≡ due
  pub own : w.notes.asked ≡ Some due
  pub short : w.site.clock.now < due

-- So it is where a fleet waits.
abbrev pub EachFleetWaits : Type 0
EachFleetWaits = (a b : FleetWorld) → IsGoing a.phase → FleetSteps a b → (due : ℕ) → b.phase ≡ waits due → IsFleetShort b due

-- Never more parcels changed no journal than may be.
abbrev pub EachFleetIgnores : Type 0
EachFleetIgnores = (a b : FleetWorld) → a.notes.ignored ≤ most_ignored → FleetSteps a b → b.notes.ignored ≤ most_ignored

-- A fleet that closes is flooded exactly where 1,000,000 parcels changed no journal.
abbrev pub EachFleetFloods : Type 0
EachFleetFloods = (a b : FleetWorld) (runs : Runs) (most : ℕ) → IsFleetOpened a runs most → FleetSteps a b → (closes : FleetClose) → IsFleetClose closes b
    → (closes ≡ close.Flooded) ↔ (b.notes.ignored ≡ most_ignored)
