-- Promise: What a call of `fleet` does, all but its last line.
use Rattle.std.specs.Prelude.{◌≡◌, ◌≢◌, ◌⊎◌, ℕ, List, Ok, Err, IsSome, IsTrue}
use Rattle.serde_json.specs.Data.{Data}
use Rattle.cacao_check.specs.declared.breaks.Break.{Break}
use Rattle.cacao_site.specs.Sound.{IsSound}
use Rattle.cacao_site.specs.View.{SiteView}
use Rattle.flow_fleet_returns.specs.Fleets.{AreFleetRuns, FleetClosed, FleetRefused}
use Rattle.flow_fleet_laws.specs.Events.{Events}
use Rattle.flow_fleet_laws.specs.Fleets.{IsFleetStart, KeepsEach}
use Rattle.flow_fleet_laws.specs.Speeches.Form.{with_numbers}
use Rattle.flow_fleet_steps.specs.Openings.{Runs, numbers}
use Rattle.flow_fleet_steps.specs.declared.close.FleetClose.{FleetClose}
use Rattle.flow_fleet_steps.specs.declared.error.FleetError.{FleetError}
use Rattle.cacao_cli_words.specs.Requests.{FleetRequest}
use Rattle.cacao_cli_ends.specs.Ends.{End, disk_failed, no_memory, refused}
use Rattle.cacao_cli_ends.specs.Files.{NamedText, ReadsTo, ShelfCall}
use Rattle.cacao_cli_ends.specs.Work.{trees_of}
use Rattle.cacao_cli_fleets.specs.FleetEnds.{FleetEnd, close_end, error_end, plain}
use Rattle.cacao_cli_fleets.specs.FleetTexts.{AreReady, IsFirstRefused, fleet_files, told_at}

-- ---- without a fleet

-- a file gave no bytes, and nothing else changed
pub record StopsReading (wanted : FleetRequest) (shelf : ShelfCall) (old new : SiteView) (last : FleetEnd) : Type 0 where
  pub end : End
  pub reads : ReadsTo shelf (fleet_files wanted) (Err end)
  pub same : new ≡ old
  pub ends : last ≡ plain end

-- the first text that has no tree
pub record LacksTree (texts : List NamedText) (last : FleetEnd) : Type 0 where
  pub end : End
  pub none : trees_of texts ≡ Err end
  pub ends : last ≡ plain end

-- each text has a tree, and this is the first playbook that breaks a rule
pub record BreaksRules (texts : List NamedText) (last : FleetEnd) : Type 0 where
  pub roots : List Data
  pub trees : trees_of texts ≡ Ok roots
  pub place : ℕ
  pub broken : Break
  pub first : IsFirstRefused texts place broken
  pub ends : last ≡ plain (refused (told_at place broken))

-- why texts give no fleet; or memory was wanted
abbrev pub GivesNone : List NamedText → FleetEnd → Type 0
GivesNone texts last = LacksTree texts last ⊎ (BreaksRules texts last ⊎ (last ≡ plain no_memory))

pub record StopsJudging (wanted : FleetRequest) (shelf : ShelfCall) (old new : SiteView) (last : FleetEnd) : Type 0 where
  pub texts : List NamedText
  pub reads : ReadsTo shelf (fleet_files wanted) (Ok texts)
  pub why : GivesNone texts last
  pub same : new ≡ old

-- ---- with it

pub record ClosesFleet (runs : Runs) (most : ℕ) (old new : SiteView) (last : FleetEnd) : Type 0 where
  pub close : FleetClose
  pub closed : FleetClosed close runs most old new
  pub ends : last ≡ close_end close

pub record RefusesFleet (runs : Runs) (most : ℕ) (old new : SiteView) (last : FleetEnd) : Type 0 where
  pub error : FleetError
  pub refused : FleetRefused error runs most old new
  pub ends : last ≡ error_end error

-- The fleet closed, or a call refused. Where the rack tells its files and its parcels, all of it is calls in a row of these runs, so
-- that all agrees for each of them at each beat, where it did when the fleet began; a failed disk is told.
pub record FleetHeld (runs : Runs) (most : ℕ) (old new : SiteView) (last : FleetEnd) : Type 0 where
  pub held : ClosesFleet runs most old new last ⊎ RefusesFleet runs most old new last
  pub events : IsTrue old.disk.told → IsSome old.link.puts → IsSome old.link.pending → Events with_numbers (numbers runs) old new
  pub agreement : IsFleetStart old (numbers runs) → KeepsEach (numbers runs) old new
  pub steady : last ≢ plain disk_failed → new.disk.faults ≡ old.disk.faults

-- The playbooks were accepted, and a fleet was held with what they give. They are runs of a fleet, and what it came to is sound, as
-- each rack is: what the laws of fleets ask.
pub record HoldsFleet (wanted : FleetRequest) (shelf : ShelfCall) (old new : SiteView) (last : FleetEnd) : Type 0 where
  pub texts : List NamedText
  pub reads : ReadsTo shelf (fleet_files wanted) (Ok texts)
  pub roots : List Data
  pub trees : trees_of texts ≡ Ok roots
  pub runs : Runs
  pub are : AreFleetRuns runs
  pub ready : AreReady wanted texts runs
  pub holds : FleetHeld runs wanted.most old new last
  pub sound : IsSound new

abbrev pub GoesAsFleet : FleetRequest → ShelfCall → SiteView → SiteView → FleetEnd → Type 0
GoesAsFleet wanted shelf old new last =
    StopsReading wanted shelf old new last ⊎ (StopsJudging wanted shelf old new last ⊎ HoldsFleet wanted shelf old new last)
