-- Promise: How a session stands in its turns and where it ends, and what its site keeps.
use Rattle.std.specs.Prelude.{◌≡◌, ◌≢◌, ◌⊎◌, ℕ, ◌<◌, ◌≤◌, Bool, true, false, [], None, ⊤}
use Rattle.cacao_site.specs.Counts.{last_count, next_count}
use Rattle.cacao_site.specs.DiskCalls.{GoesOn}
use Rattle.cacao_site.specs.declared.parcel.Parcel.{Parcel}
use Rattle.run_records.specs.declared.record.Record.TheVariants as entry
use Rattle.flow_core.specs.declared.flow_errors.LimitKind.{LimitKind}
use Rattle.flow_core.specs.declared.flow_errors.LimitKind.TheVariants as limit
use Rattle.flow_core_rules.specs.Changes.{outcome}
use Rattle.flow_world_steps.specs.HistoryCalls.{Is}
use Rattle.flow_engine_answers.specs.declared.answers.OperatorAnswer.{OperatorAnswer}
use Rattle.flow_world_steps.specs.EngineCalls.{IsBeginning, IsMove, IsReply}
use Rattle.slpf_actuator.specs.ActuatorView.{ActuatorView}
use Rattle.slpf_actuator.specs.declared.error.ActError.TheVariants as act_error
use Rattle.flow_world_steps.specs.Appends.{HasPassedLimit}
use Rattle.flow_world_steps.specs.Causes.{AskedFirst}
use Rattle.flow_world_steps.specs.Sides.{AllPut}
use Rattle.flow_world_steps.specs.Steps.{Begins, Expires, FailsToAct, Moves, Replies, Steps, Tells, Upgrades}
use Rattle.flow_world_steps.specs.Turns.{most_ignored}
use Rattle.flow_world_steps.specs.Worlds.{Cause, IsGoing, Phase, World, opened, looked, holds, waits, refused}
use Rattle.flow_world_steps.specs.Worlds.{disk_failed, not_said, run_used, past, wants_memory}
use Rattle.flow_world.specs.Closes.{IsClose}
use Rattle.flow_world.specs.Close.{Close}
use Rattle.flow_world.specs.Close.TheVariants as close

-- ---- turns

-- a run that has begun and has not ended, in which a record more may be appended
pub record MayGoOn (w : World) : Type 0 where
  pub begun : w.engine.history.records ≢ []
  pub goes_on : outcome w.engine.history.seen.lists ≡ None
  pub budget : 1 ≤ w.notes.left

-- in a turn: also each issue that waits for a filter was put, and not too many parcels changed nothing
pub record IsInTurn (w : World) : Type 0 where
  pub may : MayGoOn w
  pub put : AllPut w.engine
  pub calm : w.notes.ignored < most_ignored

-- where a take found no parcel, and where it found one, which is in hand at the beat of that take
abbrev pub TurnAt : Phase → World → Type 0
TurnAt looked w = IsInTurn w
TurnAt (holds beat parcel) w = IsInTurn w × (beat ≡ w.site.disk.beat)
TurnAt other w = ⊤

-- Whenever a session has taken, it is in a turn.
abbrev pub EachInTurn : Type 0
EachInTurn = (a b : World) → a.phase ≡ opened → Steps a b → TurnAt b.phase b

-- Where a session closes: as flooded with a run that may go on; waiting or asking in a turn, unless it waits for the moment that
-- the opening asks for.
abbrev pub EndsInTurn : Close → World → World → Type 0
EndsInTurn close.Flooded a b = MayGoOn b
EndsInTurn (close.Asked issue) a b = IsInTurn b
EndsInTurn (close.Waiting moment) a b = AskedFirst a b moment ⊎ IsInTurn b
EndsInTurn other a b = ⊤

abbrev pub EachEndsInTurn : Type 0
EachEndsInTurn =
    (a b : World) → a.phase ≡ opened → a.notes.ignored ≡ 0 → Steps a b → (how : Close) → IsClose how b → EndsInTurn how a b

-- ---- refusals

-- the line of the last record was said, but where it could not be, and perhaps where memory was wanted
abbrev pub LacksLine : Cause → Bool → Type 0
LacksLine disk_failed lacks = lacks ≡ false
LacksLine not_said lacks = lacks ≡ true
LacksLine (run_used agent) lacks = lacks ≡ false
LacksLine (past what) lacks = lacks ≡ false
LacksLine wants_memory lacks = ⊤

abbrev pub LacksOnly : Type 0
LacksOnly = (a b : World) → a.phase ≡ opened → Steps a b → (cause : Cause) (lacks : Bool) → b.phase ≡ refused cause lacks
    → LacksLine cause lacks

-- the append of the record that came next would pass this limit, or the act on the command in hand that of its filter's file
pub data PassesAt (old new : World) : LimitKind → Type 0 where
  by_begin : (what : LimitKind) → Begins old new
      → HasPassedLimit (IsBeginning old.engine.history old.site.clock.now) what old new → PassesAt old new what
  by_move : (what : LimitKind) → Moves old new
      → HasPassedLimit (IsMove old.engine.history old.site.clock.now) what old new → PassesAt old new what
  by_upgrade : (what : LimitKind) (issue : ℕ) (told : OperatorAnswer) → Upgrades issue told old new
      → HasPassedLimit (Is (entry.Upgrade 2 old.site.clock.now)) what old new → PassesAt old new what
  by_told : (what : LimitKind) (issue : ℕ) (told : OperatorAnswer) → Tells issue told old new
      → HasPassedLimit (Is (entry.Told issue old.site.clock.now told.status told.text)) what old new → PassesAt old new what
  by_expire : (what : LimitKind) (issue : ℕ) → Expires issue old new
      → HasPassedLimit (Is (entry.Expire issue old.site.clock.now)) what old new → PassesAt old new what
  by_reply : (what : LimitKind) (beat : ℕ) (parcel : Parcel) → Replies beat parcel old new
      → HasPassedLimit (IsReply old.engine.history parcel old.site.clock.now) what old new → PassesAt old new what
  by_act : (beat : ℕ) (parcel : Parcel) (v w : ActuatorView) (needed : ℕ)
      → FailsToAct beat parcel v w (act_error.Full needed) (past limit.Journal) old new → PassesAt old new limit.Journal

-- by the last step
pub record PassedByStep (what : LimitKind) (a b : World) : Type 0 where
  pub old : World
  pub before : Steps a old
  pub passes : PassesAt old b what

-- A session that refuses past a limit, but for that on moments, came to the very record or act that would pass it.
abbrev pub EachPassed : Type 0
EachPassed =
    (a b : World) → a.phase ≡ opened → Steps a b → (what : LimitKind) (lacks : Bool) → b.phase ≡ refused (past what) lacks
    → what ≢ limit.Moment → PassedByStep what a b

-- ---- the site

-- The count of answers that came too early stays while a session goes on, and takes one more where it waits. It never falls,
-- where it has 64 bits.
pub record CountsShorts (a b : World) : Type 0 where
  pub stays : IsGoing b.phase → b.site.clock.shorts ≡ a.site.clock.shorts
  pub counts : (moment : ℕ) → b.phase ≡ waits moment → b.site.clock.shorts ≡ next_count a.site.clock.shorts
  pub never_falls : a.site.clock.shorts ≤ last_count → a.site.clock.shorts ≤ b.site.clock.shorts

abbrev pub EachCountsShorts : Type 0
EachCountsShorts = (a b : World) → a.phase ≡ opened → Steps a b → CountsShorts a b

-- The disk goes on: what a crash might have left of each file at a past beat stays, and what is told stays told.
abbrev pub KeepsDiskOn : Type 0
KeepsDiskOn = (a b : World) → Steps a b → GoesOn a.site.disk b.site.disk
