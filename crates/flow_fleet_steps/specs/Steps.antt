-- Promise: What happens in a fleet, call by call. What one run does is a step of a session of its own, as it sees the rack.
use Rattle.std.specs.Prelude.{◌≡◌, ℕ, ◌+◌, ◌<◌, ◌≤◌, true, false, List, [], ◌++◌, length, Some, slice_get, slice_set}
use Rattle.cacao_site.specs.Counts.{next_count}
use Rattle.cacao_site.specs.LinkCalls.{Gains}
use Rattle.cacao_site.specs.SayCalls.{SaysOnly}
use Rattle.cacao_site.specs.SiteCalls.{Reaches, TakesNone, TakesOnly, TakesSome}
use Rattle.cacao_site.specs.Sound.{IsSound}
use Rattle.cacao_site.specs.declared.parcel.Parcel.{Parcel}
use Rattle.oc2_msg.specs.declared.answers.Answer.{Answer}
use Rattle.run_records.specs.Ranges.{last_moment}
use Rattle.flow_world_steps.specs.LimitKind.TheVariants as limit
use Rattle.flow_world_steps.specs.EngineCalls.{IsReplyTo}
use Rattle.flow_world_steps.specs.EngineView.{EngineView}
use Rattle.slpf_actuator.specs.ActuatorView.{ActuatorView}
use Rattle.slpf_actuator.specs.declared.error.ActError.{ActError}
use Rattle.flow_world_steps.specs.Sides.{IsUp}
use Rattle.flow_world_steps.specs.Steps.{ActsOn, Begins, Expires, FailsToAct, IsAddressed, IsLastLine, Moves, PutsFirst, RepeatsReply, Replies, Resends, after_reach}
use Rattle.flow_world_steps.specs.Turns.{most_ignored}
use Rattle.flow_world_steps.specs.Worlds.{World, Phase, Cause, IsGoing, opened, rests, looked, owes, holds, refused, owes_line}
use Rattle.flow_world_steps.specs.Worlds.{not_said, run_used, past, wants_memory}
use Rattle.flow_fleet_sessions.specs.Openings.{HasRunAt, IsFirstRunAt}
use Rattle.flow_fleet_laws.specs.Speeches.{head_of}
use Rattle.flow_fleet_laws.specs.Views.{seen_from}
use Rattle.flow_fleet_steps.specs.Turns.{BeginsTurn, ComesNext, HasLooked, HasNoResend, HasNoneOverdue, IsIdle, IsOnTime, IsSettled, IsTurnOf, StandsAt, last_of, turn_after}
use Rattle.flow_fleet_steps.specs.Worlds.{At, EachBelow, EachRun, FleetWorld, Own, part, set_own}

-- ---- what one run does, what the filters do, and what neither does

-- The run at this place did so, as it sees the rack; the others did nothing.
pub record DoesAt (Kind : World → World → Type 0) (place : ℕ) (old new : FleetWorld) : Type 0 where
  pub v : EngineView
  pub w : EngineView
  pub own : Own
  pub there : slice_get old.engines place ≡ Some v
  pub does : Kind (part place v (old.own place) old) (part place w own new)
  pub engines : new.engines ≡ slice_set old.engines place w
  pub owns : new.own ≡ set_own place own old.own
  pub place_is : new.place ≡ place

-- a filter did so, beside the run at place 0, which sees the rack as it is; no run did anything
pub record FiltersDo (Kind : World → World → Type 0) (old new : FleetWorld) : Type 0 where
  pub v : EngineView
  pub there : slice_get old.engines 0 ≡ Some v
  pub does : Kind (part 0 v (old.own 0) old) (part 0 v (old.own 0) new)
  pub engines : new.engines ≡ old.engines
  pub own : new.own ≡ old.own
  pub turn : new.notes.turn ≡ old.notes.turn

-- no run and no filter did anything
pub record SameSides (old new : FleetWorld) : Type 0 where
  pub engines : new.engines ≡ old.engines
  pub own : new.own ≡ old.own
  pub filters : new.filters ≡ old.filters

-- nothing happened but that the fleet goes on, or refuses
pub record OnlyPhase (old new : FleetWorld) (then_ : Phase) : Type 0 where
  pub site : new.site ≡ old.site
  pub sides : SameSides old new
  pub notes : new.notes ≡ old.notes
  pub phase : new.phase ≡ then_

-- ---- the clock

-- time went on towards a moment
pub record GoesTowards (moment answer : ℕ) (old new : FleetWorld) : Type 0 where
  pub sound : IsSound old.site
  pub reaches : Reaches moment answer old.site new.site
  pub sides : SameSides old new
  pub notes : new.notes ≡ record old.notes { asked = Some moment }
  pub phase : new.phase ≡ after_reach moment answer

-- the journal is empty, and some filter has an act of the run
pub record IsUsedBy (w : FleetWorld) (v : EngineView) (agent : ℕ) : Type 0 where
  pub empty : v.history.records ≡ []
  pub low : 1 ≤ agent
  pub high : agent ≤ 16
  pub has : HasRunAt w.filters v.history.seen.run agent

-- The opening, once all files are open: no filter has an act of a run whose journal is empty, and the clock is asked for the
-- greatest moment of a last record, 0 where there is none.
pub record OpensClock (answer : ℕ) (old new : FleetWorld) : Type 0 where
  pub phase : old.phase ≡ opened
  pub stands : EachRun old.engines (StandsAt old.site)
  pub unused : EachRun old.engines (λ place v. (agent : ℕ) → IsUsedBy old v agent → ⊥)
  pub goes : GoesTowards (last_of old.engines) answer old new

-- the first place whose journal is empty and whose run has acts, and the least filter that has one
pub record FindsRunUsed (place agent : ℕ) (old new : FleetWorld) : Type 0 where
  pub phase : old.phase ≡ opened
  pub used : At old place (λ v. (v.history.records ≡ []) × IsFirstRunAt old.filters v.history.seen.run agent)
  pub lower : EachBelow place old.engines (λ lower v. (other : ℕ) → IsUsedBy old v other → ⊥)
  pub only : OnlyPhase old new (refused (run_used agent) false)
  pub place_is : new.place ≡ place

-- the end of a turn: the clock is asked for what comes next, which is within the limit
pub record AsksClock (moment answer : ℕ) (old new : FleetWorld) : Type 0 where
  pub next : ComesNext old moment
  pub in_time : moment ≤ last_moment
  pub goes : GoesTowards moment answer old new

-- what comes next is past the limit
pub record FindsLate (moment : ℕ) (old new : FleetWorld) : Type 0 where
  pub next : ComesNext old moment
  pub late : last_moment < moment
  pub only : OnlyPhase old new (refused (past limit.Moment) false)

-- ---- what one run does

-- The journal at this place is empty, and its Begin is appended. Each run at a lower place has begun, and its commands were put.
pub record BeginsAt (place : ℕ) (old new : FleetWorld) : Type 0 where
  pub settled : EachBelow place old.engines (IsSettled old.site)
  pub stands : EachRun old.engines (StandsAt old.site)
  pub does : DoesAt Begins place old new
  pub turn : new.notes.turn ≡ old.notes.turn

-- a command of this place is put for the first time
pub record PutsFirstAt (place issue : ℕ) (old new : FleetWorld) : Type 0 where
  pub settled : EachBelow place old.engines (IsSettled old.site)
  pub stands : EachRun old.engines (StandsAt old.site)
  pub does : DoesAt (PutsFirst issue) place old new
  pub turn : new.notes.turn ≡ old.notes.turn

-- a move is enabled at this place, whose turn it is, and its record is appended
pub record MovesAt (place : ℕ) (old new : FleetWorld) : Type 0 where
  pub has_looked : HasLooked old
  pub turn_of : IsTurnOf old.engines old.notes.turn old.site.clock.now place
  pub does : DoesAt Moves place old new
  pub turn : new.notes.turn ≡ turn_after (length old.engines) place

-- no run has a move, and this is the first place with an issue that is at or past its deadline: the least such issue expires
pub record ExpiresAt (place issue : ℕ) (old new : FleetWorld) : Type 0 where
  pub idle : IsIdle old
  pub lower : EachBelow place old.engines (λ lower. HasNoneOverdue old.site.clock.now)
  pub does : DoesAt (Expires issue) place old new
  pub turn : new.notes.turn ≡ old.notes.turn

-- no issue is overdue, and this is the first place with a resend that is due
pub record ResendsAt (place issue : ℕ) (old new : FleetWorld) : Type 0 where
  pub on_time : IsOnTime old
  pub lower : EachBelow place old.engines (λ lower. HasNoResend old.site.clock.now)
  pub does : DoesAt (Resends issue) place old new
  pub turn : new.notes.turn ≡ old.notes.turn

-- ---- lines

-- the line of the last record of this place was handed to the rack, behind the run's number and a space
pub record SpeaksAt (place : ℕ) (v : EngineView) (bytes : List ℕ) (old new : FleetWorld) : Type 0 where
  pub phase : old.phase ≡ owes
  pub place_is : old.place ≡ place
  pub sound : IsSound old.site
  pub stands : EachRun old.engines (StandsAt old.site)
  pub there : slice_get old.engines place ≡ Some v
  pub up : IsUp v (seen_from place old.site)
  pub line : IsLastLine v bytes
  pub only : SaysOnly old.site new.site
  pub sides : SameSides old new
  pub notes : new.notes ≡ old.notes

-- and it was said
pub record SaysAt (place : ℕ) (v : EngineView) (bytes : List ℕ) (old new : FleetWorld) : Type 0 where
  pub speaks : SpeaksAt place v bytes old new
  pub said : Gains old.site.link.said (new.site.disk.beat, head_of v.history.seen.run ++ bytes) new.site.link.said
  pub counted : new.site.counts.unsaid ≡ old.site.counts.unsaid
  pub phase : new.phase ≡ rests

-- or it was not, and that was counted
pub record FailsToSayAt (place : ℕ) (v : EngineView) (bytes : List ℕ) (old new : FleetWorld) : Type 0 where
  pub speaks : SpeaksAt place v bytes old new
  pub unsaid : new.site.link.said ≡ old.site.link.said
  pub counted : new.site.counts.unsaid ≡ next_count old.site.counts.unsaid
  pub phase : new.phase ≡ refused not_said true

-- ---- parcels

-- a parcel was taken
pub record Takes (parcel : Parcel) (old new : FleetWorld) : Type 0 where
  pub turn : BeginsTurn old
  pub only : TakesOnly old.site new.site
  pub some : TakesSome parcel old.site new.site
  pub sides : SameSides old new
  pub notes : new.notes ≡ old.notes
  pub phase : new.phase ≡ holds new.site.disk.beat parcel

-- none was there
pub record FindsNone (old new : FleetWorld) : Type 0 where
  pub turn : BeginsTurn old
  pub only : TakesOnly old.site new.site
  pub none : TakesNone old.site new.site
  pub sides : SameSides old new
  pub notes : new.notes ≡ old.notes
  pub phase : new.phase ≡ looked

-- memory was wanted for a parcel, and it stays pending
pub record FailsToTake (old new : FleetWorld) : Type 0 where
  pub turn : BeginsTurn old
  pub only : TakesOnly old.site new.site
  pub link : new.site.link ≡ old.site.link
  pub sides : SameSides old new
  pub notes : new.notes ≡ old.notes
  pub phase : new.phase ≡ refused wants_memory false

-- a parcel in hand changed no journal, and is counted
pub record Ignores (old new : FleetWorld) : Type 0 where
  pub calm : old.notes.ignored < most_ignored
  pub sides : SameSides old new
  pub notes : new.notes ≡ record old.notes { ignored = old.notes.ignored + 1 }
  pub phase : new.phase ≡ rests

-- a parcel for no agent, or with too many bytes, is dropped
pub record Drops (beat : ℕ) (parcel : Parcel) (old new : FleetWorld) : Type 0 where
  pub phase : old.phase ≡ holds beat parcel
  pub why : IsAddressed parcel → ⊥
  pub site : new.site ≡ old.site
  pub ignores : Ignores old new

-- a reply is in hand
pub record HoldsReply (beat : ℕ) (parcel : Parcel) (w : FleetWorld) : Type 0 where
  pub phase : w.phase ≡ holds beat parcel
  pub addressed : IsAddressed parcel
  pub back : parcel.back ≡ true

-- it is for this place, and its Reply is appended
pub record RepliesAt (beat : ℕ) (parcel : Parcel) (place : ℕ) (old new : FleetWorld) : Type 0 where
  pub stands : EachRun old.engines (StandsAt old.site)
  pub does : DoesAt (Replies beat parcel) place old new
  pub turn : new.notes.turn ≡ old.notes.turn

-- it is no final reply to an issue of any run that waits, from the issue's filter
pub record IgnoresReply (beat : ℕ) (parcel : Parcel) (old new : FleetWorld) : Type 0 where
  pub holds_reply : HoldsReply beat parcel old
  pub no_reply : EachRun old.engines (λ place v. (read : Answer) → IsReplyTo v.history parcel read → ⊥)
  pub site : new.site ≡ old.site
  pub ignores : Ignores old new

-- ---- all

-- memory was wanted, and nothing happened
pub record WantsMemory (old new : FleetWorld) : Type 0 where
  pub going : IsGoing old.phase
  pub only : OnlyPhase old new (refused wants_memory (owes_line old.phase))

-- one call of a fleet
pub data FleetStep (old new : FleetWorld) : Type 0 where
  opens_clock : (answer : ℕ) → OpensClock answer old new → FleetStep old new
  finds_run_used : (place agent : ℕ) → FindsRunUsed place agent old new → FleetStep old new
  asks_clock : (moment answer : ℕ) → AsksClock moment answer old new → FleetStep old new
  finds_late : (moment : ℕ) → FindsLate moment old new → FleetStep old new
  begins : (place : ℕ) → BeginsAt place old new → FleetStep old new
  moves : (place : ℕ) → MovesAt place old new → FleetStep old new
  expires : (place issue : ℕ) → ExpiresAt place issue old new → FleetStep old new
  says : (place : ℕ) (v : EngineView) (bytes : List ℕ) → SaysAt place v bytes old new → FleetStep old new
  fails_to_say : (place : ℕ) (v : EngineView) (bytes : List ℕ) → FailsToSayAt place v bytes old new → FleetStep old new
  puts_first : (place issue : ℕ) → PutsFirstAt place issue old new → FleetStep old new
  resends : (place issue : ℕ) → ResendsAt place issue old new → FleetStep old new
  takes : (parcel : Parcel) → Takes parcel old new → FleetStep old new
  finds_none : FindsNone old new → FleetStep old new
  fails_to_take : FailsToTake old new → FleetStep old new
  drops : (beat : ℕ) (parcel : Parcel) → Drops beat parcel old new → FleetStep old new
  replies : (beat : ℕ) (parcel : Parcel) (place : ℕ) → RepliesAt beat parcel place old new → FleetStep old new
  ignores_reply : (beat : ℕ) (parcel : Parcel) → IgnoresReply beat parcel old new → FleetStep old new
  acts_on : (beat : ℕ) (parcel : Parcel) (v w : ActuatorView) → FiltersDo (ActsOn beat parcel v w) old new → FleetStep old new
  repeats_reply : (beat : ℕ) (parcel : Parcel) (v w : ActuatorView) → FiltersDo (RepeatsReply beat parcel v w) old new
      → FleetStep old new
  fails_to_act : (beat : ℕ) (parcel : Parcel) (v w : ActuatorView) (error : ActError) (cause : Cause)
      → FiltersDo (FailsToAct beat parcel v w error cause) old new → FleetStep old new
  wants_memory_now : WantsMemory old new → FleetStep old new

-- calls in a row
pub data FleetSteps : FleetWorld → FleetWorld → Type 0 where
  nothing : {world : FleetWorld} → FleetSteps world world
  and_then : {old mid new : FleetWorld} → FleetSteps old mid → FleetStep mid new → FleetSteps old new
