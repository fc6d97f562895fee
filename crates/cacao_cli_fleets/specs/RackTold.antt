-- Promise: What the status of a call of `fleet` tells of its rack.
use Rattle.std.specs.Prelude.{◌≡◌, ◌≢◌, ◌<◌, ◌≤◌, ℕ, Option, IfSome}
use Rattle.cacao_site.specs.Counts.{Rose}
use Rattle.cacao_site.specs.View.{SiteView}
use Rattle.cacao_cli_words.specs.Requests.{FleetRequest}
use Rattle.cacao_cli_ends.specs.Comes.{IsOneOf, reached_statuses}

-- What failed: a call of the disk, or a line that could not be said. And where the clock stands: before what it was asked for
-- last, where the fleet waits, and at it or behind it where its runs ended, paused, took too many parcels or ask.
pub record TellsOfRack (old new : SiteView) (answer : ℕ) : Type 0 where
  pub disk_failed : answer ≡ 8 → Rose old.disk.faults new.disk.faults
  pub disk_steady : answer ≢ 8 → answer ≢ 9 → new.disk.faults ≡ old.disk.faults
  pub unsaid : answer ≡ 9 → Rose old.counts.unsaid new.counts.unsaid
  pub said : answer ≢ 9 → new.counts.unsaid ≡ old.counts.unsaid
  pub stands_short : answer ≡ 14 → new.clock.now < new.clock.asked
  pub stands_reached : IsOneOf answer reached_statuses → new.clock.asked ≤ new.clock.now

-- so it is where the words ask for a fleet
abbrev pub TellsFleetRack : Option FleetRequest → SiteView → SiteView → ℕ → Type 0
TellsFleetRack asked old new answer = IfSome asked (λ wanted. TellsOfRack old new answer)
