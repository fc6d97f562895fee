-- Promise: Why a session ended as it did.
use Rattle.std.specs.Prelude.{◌≡◌, ◌≢◌, ◌⊎◌, ℕ, ◌+◌, ◌-◌, ◌<◌, ◌≤◌, Bool, false, true, [], ◌∷◌, ◌++◌, List, Some, slice_get, ⊤}
use Rattle.cacao_site.specs.Counts.{Rose}
use Rattle.cacao_site.specs.declared.parcel.Parcel.{Parcel}
use Rattle.run_records.specs.Ranges.{last_moment}
use Rattle.run_records.specs.declared.act.Act.{Act}
use Rattle.run_records.specs.declared.record.Record.{Record}
use Rattle.flow_engine.specs.LimitKind.{LimitKind}
use Rattle.flow_engine.specs.LimitKind.TheVariants as limit
use Rattle.flow_core_rules.specs.Moves.{due}
use Rattle.flow_core_rules.specs.declared.issues.Issue.{Issue}
use Rattle.flow_engine.specs.HistoryCalls.{Is, PassesLimit}
use Rattle.flow_engine.specs.EngineCalls.{IsWaiting}
use Rattle.flow_engine.specs.OpenIssues.{resend_after}
use Rattle.slpf_actuator.specs.ActuatorCalls.{Overflows}
use Rattle.slpf_actuator.specs.ActuatorView.{ActuatorView}
use Rattle.flow_world_steps.specs.Steps.{AsksClock, HasRun, IsAddressed, OpensClock, Step, Steps}
use Rattle.flow_world_steps.specs.Worlds.{IsGoing, Phase, World, opened, refused, waits, disk_failed, not_said, run_used, past}

-- the journal is empty, and this is the least filter with an act of the run
pub record IsFirstWithRun (w : World) (agent : ℕ) : Type 0 where
  pub empty : w.engine.history.records ≡ []
  pub low : 1 ≤ agent
  pub high : agent ≤ 16
  pub has : HasRun w agent
  pub least : (lower : ℕ) → 1 ≤ lower → lower < agent → HasRun w lower → ⊥

-- the clock is past the limit, or what is due is
abbrev pub IsLate : World → Type 0
IsLate w = (last_moment < w.site.clock.now) ⊎ ((at : ℕ) × (due w.engine.history.seen ≡ Some at) × (last_moment < at))

-- a record that may come next would pass this limit
pub record RecordPasses (w : World) (what : LimitKind) : Type 0 where
  pub r : Record
  pub passes : PassesLimit w.engine.history (Is r) what

-- the act of a filter on a command for it would pass the limit of its file
pub record ActPasses (w : World) : Type 0 where
  pub parcel : Parcel
  pub addressed : IsAddressed parcel
  pub command : parcel.back ≡ false
  pub v : ActuatorView
  pub there : slice_get w.filters (parcel.agent - 1) ≡ Some v
  pub needed : ℕ
  pub passes : Overflows v parcel w.site.clock.now needed

-- one of these
abbrev pub WouldPass : World → LimitKind → Type 0
WouldPass w limit.Journal = RecordPasses w limit.Journal ⊎ ActPasses w
WouldPass w what = RecordPasses w what

-- the clock was asked at the opening, for the moment of the last record, and no call came before or after
pub record AskedFirst (a b : World) (moment : ℕ) : Type 0 where
  pub answer : ℕ
  pub opens : OpensClock answer a b
  pub is : moment ≡ a.engine.history.seen.moment

-- An issue of a filter waits, and the moment comes before what is due, at most 5,000 milliseconds from now.
pub record IsResendNear (w : World) (moment : ℕ) : Type 0 where
  pub issue : ℕ
  pub it : Issue
  pub waiting : IsWaiting w.engine.history.seen issue it
  pub near : moment ≤ w.site.clock.now + resend_after
  pub at : ℕ
  pub due_is : due w.engine.history.seen ≡ Some at
  pub early : moment < at

-- the clock was asked in the last step, for what came next: what is due, or a resend
pub record AskedLast (a b : World) (moment : ℕ) : Type 0 where
  pub old : World
  pub before : Steps a old
  pub answer : ℕ
  pub asks : AsksClock moment answer old b
  pub what : a.engine.puts ≡ [] → (due b.engine.history.seen ≡ Some moment) ⊎ IsResendNear b moment

-- the clock was asked for this moment by this session in its last step, and answered less
pub record IsShort (a b : World) (moment : ℕ) : Type 0 where
  pub asked : b.site.clock.asked ≡ moment
  pub own : b.notes.asked ≡ Some moment
  pub short : b.site.clock.now < moment
  pub why : AskedFirst a b moment ⊎ AskedLast a b moment

-- What shows the cause of an end, from a world to the last one. Want of memory is free.
abbrev pub Shows : Phase → World → World → Type 0
Shows (refused disk_failed lacks) a b = Rose a.site.disk.faults b.site.disk.faults
Shows (refused not_said lacks) a b = Rose a.site.counts.unsaid b.site.counts.unsaid × (lacks ≡ true)
Shows (refused (run_used agent) lacks) a b = IsFirstWithRun b agent
Shows (refused (past limit.Moment) lacks) a b = IsLate b
Shows (refused (past what) lacks) a b = WouldPass b what
Shows (waits due) a b = IsShort a b due
Shows other a b = ⊤

-- Each end has its cause; and the counts of faults never fall.
pub record HasCause (a b : World) : Type 0 where
  pub faults : a.site.disk.faults ≤ b.site.disk.faults
  pub unsaid : a.site.counts.unsaid ≤ b.site.counts.unsaid
  pub shows : Shows b.phase a b

abbrev pub EachCause : Type 0
EachCause = (a b : World) → a.phase ≡ opened → Steps a b → HasCause a b

-- Where the session did not refuse because the disk failed, no call of the disk failed.
abbrev pub EachSteady : Type 0
EachSteady = (a b : World) → Steps a b → ((lacks : Bool) → b.phase ≢ refused disk_failed lacks)
    → b.site.disk.faults ≡ a.site.disk.faults

-- the last step, from a world that went on
pub record EndedByStep (a b : World) : Type 0 where
  pub old : World
  pub before : Steps a old
  pub going : IsGoing old.phase
  pub step : Step old b

-- A session that refused or waits came to that by one step, which tells why.
abbrev pub EachEnded : Type 0
EachEnded = (a b : World) → IsGoing a.phase → Steps a b → (IsGoing b.phase → ⊥) → EndedByStep a b

-- Each appended act came by one step, which is that of its command at its moment.
pub record ActedByStep (a b : World) (front : List (ℕ × Act)) (e : ℕ × Act) : Type 0 where
  pub old : World
  pub new : World
  pub before : Steps a old
  pub step : Step old new
  pub after : Steps new b
  pub was : old.notes.acted ≡ a.notes.acted ++ front
  pub has : new.notes.acted ≡ old.notes.acted ++ e ∷ []

abbrev pub EachActed : Type 0
EachActed = (a b : World) → Steps a b → (front back : List (ℕ × Act)) (e : ℕ × Act)
    → b.notes.acted ≡ (a.notes.acted ++ front) ++ e ∷ back → ActedByStep a b front e
