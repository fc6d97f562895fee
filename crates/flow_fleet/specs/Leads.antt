-- Scaffold: Where the functions of a fleet lead: from each world that has what they know, to one that has what they left.
use Rattle.std.specs.Prelude.{◌≡◌, ◌≢◌, ◌++◌, ℕ, ◌+◌, ◌<◌, ◌≤◌, Bool, true, false, List, length, Option, Some, None, Result, Ok, Err, slice_get, slice_set, ⊤}
use Rattle.cacao_site.specs.DiskCalls.{GoesOn, StaysAt}
use Rattle.cacao_site.specs.RunViews.{file_of}
use Rattle.cacao_site.specs.View.{SiteView}
use Rattle.cacao_site.specs.declared.parcel.Parcel.{Parcel}
use Rattle.oc2_msg.specs.declared.answers.Answer.{Answer}
use Rattle.flow_core_rules.specs.Changes.{is_in_time, outcome}
use Rattle.flow_engine.specs.EngineCalls.{IsReplyTo}
use Rattle.flow_engine.specs.EngineView.{EngineView}
use Rattle.slpf_actuator.specs.ActuatorView.{ActuatorView}
use Rattle.flow_world_steps.specs.Sides.{AreFilters}
use Rattle.flow_world_steps.specs.Steps.{IsLastLine}
use Rattle.flow_world_steps.specs.Turns.{most_ignored}
use Rattle.flow_world_steps.specs.Worlds.{Phase, owes, rests}
use Rattle.flow_fleet_laws.specs.Speeches.{head_of}
use Rattle.flow_fleet_steps.specs.Closes.{IsFleetClose, IsFleetRefusal}
use Rattle.flow_fleet_steps.specs.Steps.{FleetSteps}
use Rattle.flow_fleet_steps.specs.Turns.{HasLooked, HasNoResend, HasNoneOverdue, IsIdle, IsOnTime, IsSettled, IsTurnOf, StandsAt, turn_after}
use Rattle.flow_fleet_steps.specs.Worlds.{EachBelow, EachRun, FleetWorld, Own, Shared}
use Rattle.flow_fleet_steps.specs.declared.close.FleetClose.{FleetClose}
use Rattle.flow_fleet_steps.specs.declared.error.FleetError.{FleetError}
use Rattle.flow_fleet.specs.declared.fleet_state.Fleet.{Fleet}

-- the world with all this
abbrev pub at : SiteView → List EngineView → (ℕ → Own) → List ActuatorView → Shared → Phase → ℕ → FleetWorld
at site engines own filters notes phase place =
    record { site = site; engines = engines; own = own; filters = filters; notes = notes; phase = phase; place = place }

-- ---- ends

-- calls led to a refusal, which left this rack
pub record RefusesAt (error : FleetError) (site : SiteView) (from : FleetWorld) : Type 0 where
  pub to : FleetWorld
  pub steps : FleetSteps from to
  pub left_is : to.site ≡ site
  pub refuses : IsFleetRefusal error to

-- calls led to a close, which left this rack
pub record ClosesAt (close : FleetClose) (site : SiteView) (from : FleetWorld) : Type 0 where
  pub to : FleetWorld
  pub steps : FleetSteps from to
  pub left_is : to.site ≡ site
  pub closes : IsFleetClose close to

-- ---- one run

-- each run's file holds its records, and each at a lower place has begun, and its commands were put
pub record IsBelow (place : ℕ) (site : SiteView) (engines : List EngineView) : Type 0 where
  pub few : length engines ≤ 16
  pub stands : EachRun engines (StandsAt site)
  pub settled : EachBelow place engines (IsSettled site)

-- calls led to this rack, this engine at the place, and phase, and appended so many records; the turn is then this
pub record RunLeads (n : ℕ) (turn : FleetWorld → ℕ) (place : ℕ) (from : FleetWorld) (site : SiteView) (w : EngineView) (phase : Phase) : Type 0 where
  pub own : ℕ → Own
  pub notes : Shared
  pub at_place : ℕ
  pub steps : FleetSteps from (at site (slice_set from.engines place w) own from.filters notes phase at_place)
  pub owed : phase ≡ owes → at_place ≡ place
  pub left : notes.left + n ≡ from.notes.left
  pub turn_is : notes.turn ≡ turn from
  pub ignored : notes.ignored ≡ from.notes.ignored

-- the turn stays
abbrev pub same_turn : FleetWorld → ℕ
same_turn w = w.notes.turn

-- so it is from each world with this rack, engine at the place, and phase, that has P
abbrev pub RunGoes : (FleetWorld → Type 0) → ℕ → (FleetWorld → ℕ) → ℕ → SiteView → EngineView → Phase → SiteView → EngineView → Phase → Type 0
RunGoes P n turn place so v p sn w q =
    (engines : List EngineView) (own : ℕ → Own) (filters : List ActuatorView) (notes : Shared) (k : ℕ) → slice_get engines place ≡ Some v
    → P (at so engines own filters notes p k) → RunLeads n turn place (at so engines own filters notes p k) sn w q

abbrev pub RunRefuses : (FleetWorld → Type 0) → FleetError → ℕ → SiteView → EngineView → Phase → SiteView → Type 0
RunRefuses P error place so v p sn =
    (engines : List EngineView) (own : ℕ → Own) (filters : List ActuatorView) (notes : Shared) (k : ℕ) → slice_get engines place ≡ Some v
    → P (at so engines own filters notes p k) → RefusesAt error sn (at so engines own filters notes p k)

-- what becomes of a call for one run that came from such a world: it goes on, or refuses
abbrev pub RunDid : {T : Type 0} → Result T FleetError → (FleetWorld → Type 0) → ℕ → (FleetWorld → ℕ) → ℕ → SiteView → EngineView → Phase → SiteView → EngineView → Type 0
RunDid (Ok done) P n turn place so v p sn w = RunGoes P n turn place so v p sn w rests
RunDid (Err error) P n turn place so v p sn w = RunRefuses P error place so v p sn

-- the same of a call that may not apply: then nothing changed, and this is why
abbrev pub RunTried : Result Bool FleetError → (FleetWorld → Type 0) → Type 0 → ℕ → ℕ → SiteView → EngineView → Phase → SiteView → EngineView → Type 0
RunTried (Ok true) P Why n place so v p sn w = RunGoes P n same_turn place so v p sn w rests
RunTried (Ok false) P Why n place so v p sn w = Why × (w ≡ v) × (sn ≡ so)
RunTried (Err error) P Why n place so v p sn w = RunRefuses P error place so v p sn

-- what a call for one run asks of the world: the runs at lower places are settled
abbrev pub Below : ℕ → FleetWorld → Type 0
Below place w = IsBelow place w.site w.engines

-- the same, where the run's line may be owed
abbrev pub Owing : ℕ → FleetWorld → Type 0
Owing place w = IsBelow place w.site w.engines × (w.place ≡ place)

-- a record more may be appended, and the run's Begin or Reply may be the next
abbrev pub MayAppend : ℕ → FleetWorld → Type 0
MayAppend place w = IsBelow place w.site w.engines × (1 ≤ w.notes.left)

-- the turn is this place's
pub record MayMove (place : ℕ) (w : FleetWorld) : Type 0 where
  pub has_looked : HasLooked w
  pub turn_of : IsTurnOf w.engines w.notes.turn w.site.clock.now place
  pub few : length w.engines ≤ 16

-- no run has a move, and this is the first place with an issue that is overdue
pub record MayExpire (place : ℕ) (w : FleetWorld) : Type 0 where
  pub idle : IsIdle w
  pub lower : EachBelow place w.engines (λ lower. HasNoneOverdue w.site.clock.now)
  pub few : length w.engines ≤ 16

-- none is overdue, and this is the first place with a resend that is due
pub record MayResend (place : ℕ) (w : FleetWorld) : Type 0 where
  pub on_time : IsOnTime w
  pub lower : EachBelow place w.engines (λ lower. HasNoResend w.site.clock.now)
  pub few : length w.engines ≤ 16

-- the turn behind a move of this place
abbrev pub next_turn : ℕ → FleetWorld → ℕ
next_turn place w = turn_after (length w.engines) place

-- all files but the run's journal stay, and the present moment does
pub record LeavesRest (place : ℕ) (so sn : SiteView) : Type 0 where
  pub on : GoesOn so.disk sn.disk
  pub files : (file : ℕ) → file ≢ file_of place → StaysAt so.disk sn.disk file
  pub now : sn.clock.now ≡ so.clock.now

-- ---- the fleet

-- what the fleet counts is what was noted
pub record Counts (s : Fleet) (notes : Shared) : Type 0 where
  pub left : notes.left ≡ s.left
  pub turn : notes.turn ≡ s.turn
  pub ignored : notes.ignored ≡ s.ignored

-- the world of a fleet
abbrev pub world_of : SiteView → Fleet → (ℕ → Own) → Shared → Phase → ℕ → FleetWorld
world_of site s own notes phase k = at site s.engines.items own s.filters notes phase k

-- calls led to this rack and fleet, in that phase
pub record Leads (from : FleetWorld) (site : SiteView) (s : Fleet) (phase : Phase) : Type 0 where
  pub own : ℕ → Own
  pub notes : Shared
  pub at_place : ℕ
  pub steps : FleetSteps from (world_of site s own notes phase at_place)
  pub counts : Counts s notes

abbrev pub Goes : SiteView → Fleet → Phase → SiteView → Fleet → Phase → Type 0
Goes so s p sn t q =
    (own : ℕ → Own) (notes : Shared) (k : ℕ) → Counts s notes → Leads (world_of so s own notes p k) sn t q

abbrev pub Refuses : FleetError → SiteView → Fleet → Phase → SiteView → Type 0
Refuses error so s p sn =
    (own : ℕ → Own) (notes : Shared) (k : ℕ) → Counts s notes → RefusesAt error sn (world_of so s own notes p k)

abbrev pub ClosesFrom : FleetClose → SiteView → Fleet → Phase → SiteView → Type 0
ClosesFrom close so s p sn =
    (own : ℕ → Own) (notes : Shared) (k : ℕ) → Counts s notes → ClosesAt close sn (world_of so s own notes p k)

-- what becomes of a call of a fleet that came from such worlds: it goes on to a new turn, or refuses
abbrev pub Did : {T : Type 0} → Result T FleetError → SiteView → Fleet → Phase → SiteView → Fleet → Type 0
Did (Ok done) so s p sn t = Goes so s p sn t rests
Did (Err error) so s p sn t = Refuses error so s p sn

-- or it closes
abbrev pub Turned : Result (Option FleetClose) FleetError → SiteView → Fleet → Phase → SiteView → Fleet → Type 0
Turned (Ok None) so s p sn t = Goes so s p sn t rests
Turned (Ok (Some close)) so s p sn t = ClosesFrom close so s p sn
Turned (Err error) so s p sn t = Refuses error so s p sn

-- it closes in the end, or refuses
abbrev pub Ended : Result FleetClose FleetError → SiteView → Fleet → Phase → SiteView → Type 0
Ended (Ok close) so s p sn = ClosesFrom close so s p sn
Ended (Err error) so s p sn = Refuses error so s p sn

-- between its calls: each run's file holds its records, and one may come at the present moment, which the fleet knows
pub record IsWorking (s : Fleet) (site : SiteView) : Type 0 where
  pub few : length s.engines.items ≤ 16
  pub stands : EachRun s.engines.items (StandsAt site)
  pub in_time : EachRun s.engines.items (λ place v. is_in_time v.history.seen site.clock.now ≡ true)
  pub filters : AreFilters s.filters site
  pub now : s.now ≡ site.clock.now
  pub turn : s.turn < length s.engines.items

-- a turn may begin, if the fleet does not close: each run has begun, its commands were put, and not too many parcels changed nothing
pub record IsBetweenTurns (s : Fleet) (site : SiteView) : Type 0 where
  pub works : IsWorking s site
  pub settled : EachRun s.engines.items (IsSettled site)
  pub calm : s.ignored + 1 ≤ most_ignored

-- a run goes on
pub record SomeGoes (engines : List EngineView) : Type 0 where
  pub place : ℕ
  pub v : EngineView
  pub there : slice_get engines place ≡ Some v
  pub on : outcome v.history.seen.lists ≡ None

-- What holds once the run at a place has begun and its commands were put; the runs at higher places are as they were.
pub record HasBegun (place : ℕ) (s t : Fleet) (site : SiteView) : Type 0 where
  pub works : IsWorking t site
  pub settled : EachBelow (place + 1) t.engines.items (IsSettled site)
  pub above : (k : ℕ) (v : EngineView) → place < k → slice_get t.engines.items k ≡ Some v → slice_get s.engines.items k ≡ Some v
  pub many : length t.engines.items ≡ length s.engines.items
  pub ignored : t.ignored ≡ s.ignored

-- all that a fleet keeps is as it was
pub record IsSameFleet (s t : Fleet) : Type 0 where
  pub engines : t.engines.items ≡ s.engines.items
  pub filters : t.filters ≡ s.filters
  pub now : t.now ≡ s.now
  pub left : t.left ≡ s.left
  pub turn : t.turn ≡ s.turn
  pub ignored : t.ignored ≡ s.ignored

-- what becomes of a reply that is handed to the run at a place: its Reply is appended; or nothing changed, as it is none of its own
abbrev pub Tried : Result Bool FleetError → Parcel → ℕ → SiteView → Fleet → Phase → SiteView → Fleet → Type 0
Tried (Ok true) parcel place so s p sn t = Goes so s p sn t rests
Tried (Ok false) parcel place so s p sn t =
    ((v : EngineView) (read : Answer) → slice_get s.engines.items place ≡ Some v → IsReplyTo v.history parcel read → ⊥) × IsSameFleet s t × (sn ≡ so)
Tried (Err error) parcel place so s p sn t = Refuses error so s p sn

-- nothing was appended or ignored yet, and the first turn is looked for from the first place on
pub record IsNewTo (most : ℕ) (notes : Shared) : Type 0 where
  pub left : notes.left ≡ most
  pub turn : notes.turn ≡ 0
  pub ignored : notes.ignored ≡ 0

-- what becomes of a fleet that came from such a world
abbrev pub EndedAt : Result FleetClose FleetError → SiteView → FleetWorld → Type 0
EndedAt (Ok close) site from = ClosesAt close site from
EndedAt (Err error) site from = RefusesAt error site from

-- the line of the last record, with the number of its run before it, and a space
pub record IsNumberedLine (v : EngineView) (text : List ℕ) : Type 0 where
  pub bytes : List ℕ
  pub line : IsLastLine v bytes
  pub is : text ≡ head_of v.history.seen.run ++ bytes
