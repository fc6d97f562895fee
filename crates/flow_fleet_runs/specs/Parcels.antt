-- Promise: What becomes of the parcels that a fleet takes, told of beats, images of files, and the list of those taken.
use Rattle.std.specs.Prelude.{◌≡◌, ℕ, true, List, Contains}
use Rattle.cacao_site.specs.Sound.{IsSound}
use Rattle.cacao_site.specs.View.{SiteView}
use Rattle.cacao_site.specs.declared.parcel.Parcel.{Parcel}
use Rattle.oc2_msg.specs.declared.answers.Answer.{Answer}
use Rattle.flow_engine.specs.EngineCalls.{IsFinal}
use Rattle.flow_laws.specs.Images.{EachFilter, EachJournal, IsAgent}
use Rattle.flow_world_steps.specs.Handled.{IsCommand}
use Rattle.flow_world_laws.specs.Parcels.{HasTakenActs, HasTakenReplies, IsActedOn, IsRecorded, Took, WasAwaited}
use Rattle.flow_world_laws.specs.Parcels.{but_the_last}
use Rattle.flow_fleet_laws.specs.Fleets.{IsAt, IsFleetStart}
use Rattle.flow_fleet_laws.specs.Views.{seen_from}
use Rattle.flow_fleet_steps.specs.Openings.{Runs, numbers}
use Rattle.flow_fleet_steps.specs.declared.close.FleetClose.{FleetClose}
use Rattle.flow_fleet_steps.specs.declared.error.FleetError.{FleetError}
use Rattle.flow_fleet.specs.Fleets.{AreFleetRuns, FleetClosed, FleetRefused}

-- Each command for an agent 1 to 16, with at most 1,048,576 bytes, has its act on return, of whatever run it is. Each reply of
-- one of the runs whose issue waited for it at the beat at which it was taken, as that run sees the rack, and whose bytes read
-- as an answer with another status than 102, has its Reply in that run's journal. (What a file reads as is one of its images.)
pub record FleetAreHandled (site : SiteView) (runs : List ℕ) (parcels : List (ℕ × Parcel)) : Type 0 where
  pub commands : (e : ℕ × Parcel) → Contains parcels e → IsCommand e.1 → IsActedOn site e.1
  pub replies : (place : ℕ) (e : ℕ × Parcel) (read : Answer) → Contains parcels e → e.1.back ≡ true → IsAt runs place e.1.run
      → WasAwaited (seen_from place site) e.0 e.1 → IsFinal e.1.bytes read → IsRecorded (seen_from place site) e.1 read

-- In each image on return, no act was appended, of whatever run, but on a command that was taken for the agent; and to the
-- journal of each run no Reply but of a reply of this run that was taken.
pub record FleetIsOfTaken (taken : List (ℕ × Parcel)) (runs : List ℕ) (old new : SiteView) : Type 0 where
  pub acts : (agent : ℕ) → IsAgent agent → EachFilter new new.disk.beat agent (HasTakenActs taken agent old)
  pub replies : (place run : ℕ) → IsAt runs place run
      → EachJournal (seen_from place new) new.disk.beat (HasTakenReplies taken run (seen_from place old))

-- from a rack where a fleet may begin, of one that ends so, and took these parcels
abbrev pub FromAFleetStart : (List (ℕ × Parcel) → List (ℕ × Parcel)) → (Runs → ℕ → SiteView → SiteView → Type 0) → Type 0
FromAFleetStart handled Ends =
    (runs : Runs) (most : ℕ) (old new : SiteView) (taken : List (ℕ × Parcel)) → IsSound old → IsSound new → AreFleetRuns runs
    → IsFleetStart old (numbers runs) → Ends runs most old new → Took old new taken
    → FleetAreHandled new (numbers runs) (handled taken) × FleetIsOfTaken taken (numbers runs) old new

-- Where it closed, all of them are handled; where it refused, all but the last.
abbrev pub EachFleetCloseHandles : Type 0
EachFleetCloseHandles = (close : FleetClose) → FromAFleetStart (λ taken. taken) (FleetClosed close)

abbrev pub EachFleetRefusalHandles : Type 0
EachFleetRefusalHandles = (error : FleetError) → FromAFleetStart but_the_last (FleetRefused error)
