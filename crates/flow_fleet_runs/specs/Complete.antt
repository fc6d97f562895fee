-- Promise: What holds of each run of a fleet that lost no parcel.
use Rattle.std.specs.Prelude.{◌≡◌, ℕ, List, [], ◌++◌, All, Some, Option, IfSome, IsSome, Contains, slice_get, ⊤}
use Rattle.cacao_site.specs.Counts.{DidNotRise}
use Rattle.cacao_site.specs.Sound.{IsSound}
use Rattle.cacao_site.specs.View.{SiteView}
use Rattle.run_records.specs.declared.record.Record.{Record}
use Rattle.run_records.specs.declared.record.Record.TheVariants as entry
use Rattle.flow_core_rules.specs.Changes.{outcome}
use Rattle.flow_core_rules.specs.Laws.{record_of_issue}
use Rattle.flow_core_rules.specs.declared.issues.Issue.{Issue}
use Rattle.flow_engine.specs.EngineView.{EngineView}
use Rattle.flow_world_steps.specs.UnderWay.{IsUnderWay}
use Rattle.flow_world_steps.specs.Worlds.{IsGoing}
use Rattle.flow_world_laws.specs.Answered.{HasActAndReply, IsReplied}
use Rattle.flow_fleet_laws.specs.Fleets.{AreRuns, KeepsEach}
use Rattle.flow_fleet_laws.specs.Speeches.Form.{with_numbers}
use Rattle.flow_fleet_steps.specs.Closes.{IsFleetClose}
use Rattle.flow_fleet_steps.specs.Laws.{FleetWent}
use Rattle.flow_fleet_steps.specs.Openings.{IsFleetOpened, Runs, numbers}
use Rattle.flow_fleet_steps.specs.Steps.{ExpiresAt, FleetSteps}
use Rattle.flow_fleet_steps.specs.Worlds.{EachRun, FleetWorld, part}
use Rattle.flow_fleet_steps.specs.declared.close.FleetClose.TheVariants as close

-- From an opening of runs with numbers of their own, no parcel was lost, doubled or held back.
pub record LostNothing (runs : Runs) (most : ℕ) (a b : FleetWorld) : Type 0 where
  pub are : AreRuns with_numbers (numbers runs)
  pub begins : IsFleetOpened a runs most
  pub steps : FleetSteps a b
  pub still : DidNotRise a.site.counts.mishaps b.site.counts.mishaps

-- ---- what is under way

-- For each issue of each run that was put and waits, its command or a final reply to it is in hand, or pending where that is
-- told.
abbrev pub AreUnderWay : FleetWorld → Type 0
AreUnderWay w = EachRun w.engines (λ place v. IsUnderWay (part place v (w.own place) w))

abbrev pub EachFleetUnderWay : Type 0
EachFleetUnderWay = (a b : FleetWorld) (runs : Runs) (most : ℕ) → LostNothing runs most a b → AreUnderWay b

-- So no issue of any run expires, where pending parcels are told.
abbrev pub NoFleetExpiry : Type 0
NoFleetExpiry =
    (a old new : FleetWorld) (runs : Runs) (most : ℕ) → LostNothing runs most a old → IsSome old.site.link.pending
    → (place issue : ℕ) → ExpiresAt place issue old new → ⊥

-- ---- what was appended

-- no issue expires by this record, and no operator tells of one: if it ends an issue, it is its Reply
abbrev pub EndsByReply : Record → Type 0
EndsByReply (entry.Expire issue moment) = ⊥
EndsByReply (entry.Told issue moment status text) = ⊥
EndsByReply other = ⊤

-- so it is of each record that a run has more
pub record AddsRepliesAlone (v w : EngineView) : Type 0 where
  pub added : List Record
  pub is : w.history.records ≡ v.history.records ++ added
  pub each : All EndsByReply added

-- the command or the question of an issue is among the records, and so is its Reply
pub record HasItsReply (records : List Record) (n : ℕ) (it : Issue) : Type 0 where
  pub issued : Contains records (record_of_issue n it)
  pub replied : IsReplied records n

-- No issue of any run ended but by its Reply, also by a record that may stand after a fault; and where the journal of a run was
-- empty and the run has ended, each of its issues has its Reply.
pub record IsFleetComplete (a b : FleetWorld) : Type 0 where
  pub adds : (place : ℕ) (v w : EngineView) → slice_get a.engines place ≡ Some v → slice_get b.engines place ≡ Some w
      → AddsRepliesAlone v w
  pub unsure : (place : ℕ) → IfSome (b.own place).unsure EndsByReply
  pub has_reply : (place : ℕ) (v w : EngineView) → slice_get a.engines place ≡ Some v → slice_get b.engines place ≡ Some w
      → v.history.records ≡ [] → IsSome (outcome w.history.seen.lists) → (n : ℕ) (it : Issue)
      → slice_get w.history.seen.lists.issues n ≡ Some it → HasItsReply w.history.records n it

abbrev pub EachFleetComplete : Type 0
EachFleetComplete =
    (a b : FleetWorld) (runs : Runs) (most : ℕ) → LostNothing runs most a b → IsSome a.site.link.pending → IsFleetComplete a b

-- ---- each Send has its act and its Reply

-- from the start of a fleet to its end no parcel was lost, doubled or held back, pending ones were told, and agreement was kept
pub record AllIsKept (runs : Runs) (old new : SiteView) : Type 0 where
  pub are : AreRuns with_numbers (numbers runs)
  pub told : IsSome old.link.pending
  pub still : DidNotRise old.counts.mishaps new.counts.mishaps
  pub agreed : KeepsEach (numbers runs) old new
  pub sound : IsSound new

-- Where so it is, and the fleet neither refused nor waits: of a run that began with an empty journal and has ended, each Send has
-- its act and its Reply.
abbrev pub EachEndedRunIsActedOn : Type 0
EachEndedRunIsActedOn =
    (runs : Runs) (most : ℕ) (old new : SiteView) → (went : FleetWent runs most old new) → IsGoing went.to.phase
    → AllIsKept runs old new → (place : ℕ) (v w : EngineView) → slice_get went.start.engines place ≡ Some v
    → v.history.records ≡ [] → slice_get went.to.engines place ≡ Some w → IsSome (outcome w.history.seen.lists)
    → (task issue agent moment : ℕ) (bytes : List ℕ) → Contains w.history.records (entry.Send task issue agent moment bytes)
    → HasActAndReply (part place w (went.to.own place) went.to) issue agent bytes

-- So it is of each run that began with an empty journal, where the fleet closed because every run had ended.
abbrev pub EachFleetSendIsActedOn : Type 0
EachFleetSendIsActedOn =
    (ill : Option ℕ) (runs : Runs) (most : ℕ) (old new : SiteView) → (went : FleetWent runs most old new)
    → IsFleetClose (close.Ended ill) went.to → AllIsKept runs old new → (place : ℕ) (v w : EngineView)
    → slice_get went.start.engines place ≡ Some v → v.history.records ≡ [] → slice_get went.to.engines place ≡ Some w
    → (task issue agent moment : ℕ) (bytes : List ℕ) → Contains w.history.records (entry.Send task issue agent moment bytes)
    → HasActAndReply (part place w (went.to.own place) went.to) issue agent bytes
