-- Promise: What a fleet puts, told of beats, images of files, and the lists of parcels put and taken.
use Rattle.std.specs.Prelude.{◌≡◌, ◌⊎◌, ℕ, ◌≤◌, false, List, ◌++◌, Contains, Some}
use Rattle.cacao_site.specs.Sound.{IsSound}
use Rattle.cacao_site.specs.View.{SiteView}
use Rattle.cacao_site.specs.declared.parcel.Parcel.{Parcel}
use Rattle.flow_engine.specs.OpenIssues.{most_puts}
use Rattle.flow_laws.specs.Held.{HasOpenSend}
use Rattle.flow_laws.specs.Images.{EachJournal}
use Rattle.flow_world_steps.specs.Link.{commands_in, commands_of, replies_in}
use Rattle.flow_world_laws.specs.Parcels.{Took}
use Rattle.flow_fleet_laws.specs.Fleets.{IsAt, IsFleetStart}
use Rattle.flow_fleet_laws.specs.Views.{seen_from}
use Rattle.flow_fleet_steps.specs.Laws.{FleetWent}
use Rattle.flow_fleet_steps.specs.Openings.{RefusesFleetOpening, Runs, numbers}
use Rattle.flow_fleet_steps.specs.declared.error.FleetError.{FleetError}
use Rattle.flow_fleet.specs.Fleets.{AreFleetRuns}

-- the parcels that a fleet put, in order, each with the beat of its put, where the rack tells them
pub record HasPut (old new : SiteView) (put : List (ℕ × Parcel)) : Type 0 where
  pub before : List (ℕ × Parcel)
  pub was : old.link.puts ≡ Some before
  pub now : new.link.puts ≡ Some (before ++ put)

-- the parcel is the command of an issue of the run at this place: at this beat, in each image of its journal, the Send of the
-- issue stands to its agent and with its bytes, and no record that ends the issue
pub record IsCommandOf (runs : List ℕ) (site : SiteView) (beat : ℕ) (parcel : Parcel) : Type 0 where
  pub place : ℕ
  pub of_run : IsAt runs place parcel.run
  pub sent : EachJournal (seen_from place site) beat (λ records. HasOpenSend records parcel)

-- Each parcel that was put is a command of one of the runs, or a reply. At most nine are the command of one issue of one run;
-- and the replies are at most as many as the commands that were taken.
pub record FleetPutsFew (put taken : List (ℕ × Parcel)) (runs : List ℕ) (site : SiteView) : Type 0 where
  pub commands : (e : ℕ × Parcel) → Contains put e → e.1.back ≡ false → IsCommandOf runs site e.0 e.1
  pub few : (place run issue : ℕ) → IsAt runs place run → commands_of run issue put ≤ most_puts
  pub replies : replies_in put ≤ commands_in taken

-- So it is however a fleet ends, from a rack where it may begin.
abbrev pub EachFleetPutsFew : Type 0
EachFleetPutsFew =
    (error : FleetError) (runs : Runs) (most : ℕ) (old new : SiteView) (put taken : List (ℕ × Parcel)) → IsSound old → IsSound new
    → AreFleetRuns runs → IsFleetStart old (numbers runs) → FleetWent runs most old new ⊎ RefusesFleetOpening error runs old new
    → HasPut old new put → Took old new taken → FleetPutsFew put taken (numbers runs) new
