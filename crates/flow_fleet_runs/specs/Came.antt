-- Promise: How each record that a fleet appended to the journal of a run came: by one call, and what that call knew.
use Rattle.std.specs.Prelude.{◌≡◌, ◌≢◌, ℕ, ◌<◌, ◌≤◌, false, List, [], ◌∷◌, ◌++◌, Some, IsSome, slice_get, ⊤}
use Rattle.base_dues.specs.Pairs.{is_by}
use Rattle.cacao_site.specs.declared.parcel.Parcel.{Parcel}
use Rattle.run_records.specs.declared.record.Record.{Record}
use Rattle.run_records.specs.declared.record.Record.TheVariants as entry
use Rattle.flow_core_rules.specs.Changes.{moment_of}
use Rattle.flow_core_rules.specs.Givens.{Given}
use Rattle.flow_core_rules.specs.Moves.{deadline_of}
use Rattle.flow_core_rules.specs.declared.issues.Issue.{Issue}
use Rattle.flow_engine.specs.EngineCalls.{IsBeginning, IsMove, IsReply, IsWaiting, put_deadline}
use Rattle.flow_engine.specs.EngineView.{EngineView}
use Rattle.flow_engine.specs.OpenIssues.{puts_of}
use Rattle.flow_world_steps.specs.Ready.{FoundNone}
use Rattle.flow_world_steps.specs.Worlds.{holds, looked, rests}
use Rattle.flow_fleet_steps.specs.Openings.{IsFleetOpened, Runs}
use Rattle.flow_fleet_steps.specs.Steps.{FleetStep, FleetSteps}
use Rattle.flow_fleet_steps.specs.Turns.{HasLooked, HasNoneOverdue, IsIdle, IsSettled, IsTurnOf}
use Rattle.flow_fleet_steps.specs.Worlds.{EachBelow, FleetWorld}

-- ---- why a record came, read off the world before, and off the engine that stood at its place there

-- It is the Begin of the run, with what that was given, at this moment. The journal was empty, and each run at a lower place had
-- begun and its commands were put.
pub record WasToBegin (r : Record) (place : ℕ) (v : EngineView) (w : FleetWorld) : Type 0 where
  pub phase : w.phase ≡ rests
  pub settled : EachBelow place w.engines (IsSettled w.site)
  pub is : IsBeginning v.history w.site.clock.now r

-- It is that of the run's enabled move at this moment: of its least-numbered task that has one. The take of this turn had found
-- no parcel, and no place that comes before this one in the circle has a move.
pub record WasEnabled (r : Record) (place : ℕ) (v : EngineView) (w : FleetWorld) : Type 0 where
  pub has_looked : HasLooked w
  pub turn : IsTurnOf w.engines w.notes.turn w.site.clock.now place
  pub move : IsMove v.history w.site.clock.now r

-- It is the Reply of a parcel that was in hand, by the run's number, the filter of the issue, and what its bytes read as.
pub record WasReplied (r : Record) (v : EngineView) (w : FleetWorld) : Type 0 where
  pub beat : ℕ
  pub parcel : Parcel
  pub in_hand : w.phase ≡ holds beat parcel
  pub is : IsReply v.history parcel w.site.clock.now r

-- The issue waited for its filter, had been put, and was at or past its deadline, and no lower one of the run was, nor one of a
-- run at a lower place. The take of this turn had found no parcel, and no run had a move.
pub record WasOverdue (issue place : ℕ) (v : EngineView) (w : FleetWorld) : Type 0 where
  pub idle : IsIdle w
  pub it : Issue
  pub waiting : IsWaiting v.history.seen issue it
  pub put : IsSome (puts_of v.puts issue)
  pub past : deadline_of v.history.seen it ≤ w.site.clock.now
  pub least : (other : ℕ) → other < issue → is_by w.site.clock.now (put_deadline v other) ≡ false
  pub lower : EachBelow place w.engines (λ other. HasNoneOverdue w.site.clock.now)

-- by its kind; a Walk, a Send, an Ask and the Upgrade are a move's, and no operator tells a fleet
abbrev pub ShowsWhy : Record → ℕ → EngineView → FleetWorld → Type 0
ShowsWhy (entry.Begin run moment books bind) place v w = WasToBegin (entry.Begin run moment books bind) place v w
ShowsWhy (entry.Reply issue moment status rule text) place v w = WasReplied (entry.Reply issue moment status rule text) v w
ShowsWhy (entry.Expire issue moment) place v w = WasOverdue issue place v w
ShowsWhy (entry.Told issue moment status text) place v w = ⊥
ShowsWhy r place v w = WasEnabled r place v w

-- ---- by which call

-- One call appended the record to the journal at this place, behind those that stood there, at the moment that it bears.
pub record AppendedAt (place : ℕ) (r : Record) (a b : FleetWorld) : Type 0 where
  pub old : FleetWorld
  pub new : FleetWorld
  pub before : FleetSteps a old
  pub step : FleetStep old new
  pub after : FleetSteps new b
  pub v : EngineView
  pub w : EngineView
  pub there : slice_get old.engines place ≡ Some v
  pub here : slice_get new.engines place ≡ Some w
  pub has : w.history.records ≡ v.history.records ++ r ∷ []
  pub moment : moment_of r ≡ old.site.clock.now
  pub why : ShowsWhy r place v old

-- So came the record that stands behind these, which were appended to the run's journal before it: the run had its number, and
-- what it was given.
pub record FleetCameByStep (a b : FleetWorld) (place : ℕ) (from : EngineView) (front : List Record) (r : Record) : Type 0 where
  pub by : AppendedAt place r a b
  pub was : by.v.history.records ≡ from.history.records ++ front
  pub run : by.v.history.seen.run ≡ from.history.seen.run
  pub given : by.v.history.seen.given ≡ from.history.seen.given

-- Each record that was appended to the journal of a run came by one call of the fleet, which tells all that was known then.
abbrev pub EachFleetCame : Type 0
EachFleetCame =
    (a b : FleetWorld) → FleetSteps a b → (place : ℕ) (v w : EngineView)
    → slice_get a.engines place ≡ Some v → slice_get b.engines place ≡ Some w → (front back : List Record) (r : Record)
    → w.history.records ≡ (v.history.records ++ front) ++ r ∷ back → FleetCameByStep a b place v front r

-- Wherever a turn of a fleet has looked for a parcel, as at each move and each Expire: the take found none at this moment.
abbrev pub EachFleetLooked : Type 0
EachFleetLooked =
    (a b : FleetWorld) → a.phase ≢ looked → FleetSteps a b → b.phase ≡ looked → FoundNone b.site b.site.clock.now

-- ---- Begins

-- the number of the run at this place, and the texts that it was given
pub record HoldsGiven (runs : Runs) (place run : ℕ) (books : List (List ℕ)) (bind : List ℕ) : Type 0 where
  pub given : Given
  pub there : slice_get runs place ≡ Some (run, given)
  pub books_are : books ≡ given.texts
  pub bind_is : bind ≡ given.bind

abbrev pub BeginsAsGiven : Runs → ℕ → Record → Type 0
BeginsAsGiven runs place (entry.Begin run moment books bind) = HoldsGiven runs place run books bind
BeginsAsGiven runs place other = ⊤

-- From the opening of a fleet's files on a Begin is appended with the number of the run at that place, and the texts that it was
-- given.
abbrev pub EachFleetBegins : Type 0
EachFleetBegins =
    (a b : FleetWorld) (runs : Runs) (most : ℕ) → IsFleetOpened a runs most → FleetSteps a b
    → (place : ℕ) (v w : EngineView) → slice_get a.engines place ≡ Some v → slice_get b.engines place ≡ Some w
    → (front back : List Record) (r : Record) → w.history.records ≡ (v.history.records ++ front) ++ r ∷ back
    → BeginsAsGiven runs place r
