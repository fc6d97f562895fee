-- Promise: Why a fleet ended as it did: what the counts of its rack tell, and where its clock stands.
use Rattle.std.specs.Prelude.{◌≡◌, ℕ, ◌<◌, ◌≤◌}
use Rattle.cacao_site.specs.Counts.{Rose, next_count}
use Rattle.cacao_site.specs.View.{ClockView, SiteView}
use Rattle.flow_fleet.specs.Fleets.{FleetClosed, FleetRefused}
use Rattle.flow_fleet_steps.specs.Openings.{Runs}
use Rattle.flow_fleet_steps.specs.declared.close.FleetClose.{FleetClose}
use Rattle.flow_fleet_steps.specs.declared.close.FleetClose.TheVariants as close
use Rattle.flow_fleet_steps.specs.declared.error.FleetError.{FleetError}
use Rattle.flow_fleet_steps.specs.declared.error.FleetError.TheVariants as fleet_error

-- ---- counts

-- no call of the disk failed, and each line was said
pub record CountsNone (old new : SiteView) : Type 0 where
  pub faults : new.disk.faults ≡ old.disk.faults
  pub unsaid : new.counts.unsaid ≡ old.counts.unsaid

-- calls of the disk failed
pub record CountsFaults (old new : SiteView) : Type 0 where
  pub faults : Rose old.disk.faults new.disk.faults
  pub unsaid : new.counts.unsaid ≡ old.counts.unsaid

-- one line could not be said
pub record CountsUnsaid (old new : SiteView) : Type 0 where
  pub faults : new.disk.faults ≡ old.disk.faults
  pub unsaid : new.counts.unsaid ≡ next_count old.counts.unsaid

-- a refusal tells which of these
abbrev pub CountsAsRefused : FleetError → SiteView → SiteView → Type 0
CountsAsRefused fleet_error.Disk old new = CountsFaults old new
CountsAsRefused fleet_error.Say old new = CountsUnsaid old new
CountsAsRefused other old new = CountsNone old new

-- So it is of each refusal of a fleet, while its files were opened or later.
abbrev pub EachFleetRefusalTells : Type 0
EachFleetRefusalTells = (error : FleetError) (runs : Runs) (most : ℕ) (old new : SiteView)
    → FleetRefused error runs most old new → CountsAsRefused error old new

-- ---- the clock

-- a clock that was asked for this moment last, and stands before it
pub record IsShortOf (due : ℕ) (clock : ClockView) : Type 0 where
  pub asked : clock.asked ≡ due
  pub short : clock.now < due

-- a fleet waits where its clock fell short; else the clock came to what it was asked for last
abbrev pub StandsAsClosed : FleetClose → ClockView → Type 0
StandsAsClosed (close.Waiting due) clock = IsShortOf due clock
StandsAsClosed other clock = clock.asked ≤ clock.now

pub record TellsClose (how : FleetClose) (old new : SiteView) : Type 0 where
  pub counts : CountsNone old new
  pub clock : StandsAsClosed how new.clock

-- So it is of each close: nothing failed, and the clock tells whether it waits.
abbrev pub EachFleetCloseTells : Type 0
EachFleetCloseTells = (how : FleetClose) (runs : Runs) (most : ℕ) (old new : SiteView)
    → FleetClosed how runs most old new → TellsClose how old new
