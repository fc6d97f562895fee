-- Promise: What happens in a session, call by call. One record a case; the order that a session keeps is in the phases and in `Turns`.
use Rattle.std.specs.Prelude.{◌≡◌, ◌≢◌, ◌⊎◌, ℕ, ◌+◌, ◌-◌, ◌<◌, ◌≤◌, nat_lt, true, false, List, [], ◌∷◌, ◌++◌, length, Any, Some, None, IsTrue, slice_get, slice_set, if◌then◌else◌}
use Rattle.cacao_site.specs.Counts.{Rose, next_count}
use Rattle.cacao_site.specs.LinkCalls.{Gains}
use Rattle.cacao_site.specs.SayCalls.{SaysOnly}
use Rattle.cacao_site.specs.SiteCalls.{Reaches, TakesNone, TakesOnly, TakesSome}
use Rattle.cacao_site.specs.Sound.{IsSound}
use Rattle.cacao_site.specs.declared.parcel.Parcel.{Parcel}
use Rattle.oc2_msg.specs.declared.answers.Answer.{Answer}
use Rattle.run_records.specs.Ranges.{last_moment}
use Rattle.run_records.specs.declared.act.Act.{Act}
use Rattle.run_records.specs.declared.record.Record.TheVariants as entry
use Rattle.flow_engine.specs.LimitKind.TheVariants as limit
use Rattle.flow_engine.specs.HistoryCalls.{Is}
use Rattle.flow_engine.specs.Histories.{IsLineAt}
use Rattle.flow_engine.specs.OperatorAnswer.{OperatorAnswer}
use Rattle.flow_engine.specs.EngineCalls.{IsBeginning, IsMove, IsReply, IsReplyTo, IsWaiting, Sends}
use Rattle.flow_engine.specs.EngineView.{EngineView}
use Rattle.flow_engine.specs.OpenIssues.{puts_of}
use Rattle.flow_laws.specs.Images.{HasBegun}
use Rattle.flow_core_rules.specs.declared.issues.Issue.{Issue}
use Rattle.slpf_actuator.specs.ActuatorCalls.{Acts, Offers, Overflows, Refuses, Repeats}
use Rattle.slpf_actuator.specs.ActuatorView.{ActuatorView, act_for}
use Rattle.slpf_actuator.specs.declared.error.ActError.{ActError}
use Rattle.slpf_actuator.specs.declared.error.ActError.TheVariants as act_error
use Rattle.flow_world_steps.specs.Appends.{Tries}
use Rattle.flow_world_steps.specs.Sides.{IsEngine, IsFilter, IsUp, IsWhole}
use Rattle.flow_world_steps.specs.Turns.{BeginsTurn, ComesNext, HasLooked, IsOverdue, IsToBeResent, IsToBeTold, most_ignored}
use Rattle.flow_world_steps.specs.Worlds.{World, Phase, Cause, IsGoing, opened, rests, looked, owes, holds, waits, refused, owes_line}
use Rattle.flow_world_steps.specs.Worlds.{disk_failed, not_said, run_used, past, wants_memory}

-- neither the engine nor a filter did anything
pub record SameSides (old new : World) : Type 0 where
  pub engine : new.engine ≡ old.engine
  pub filters : new.filters ≡ old.filters

-- nothing happened but that the session goes on, or refuses
pub record OnlyPhase (old new : World) (then_ : Phase) : Type 0 where
  pub site : new.site ≡ old.site
  pub sides : SameSides old new
  pub notes : new.notes ≡ old.notes
  pub phase : new.phase ≡ then_

-- ---- the clock

-- what follows when the clock answered: a moment past the limit is refused, and one that is too early closes the session
abbrev pub after_reach : ℕ → ℕ → Phase
after_reach moment answer =
    if nat_lt last_moment answer then refused (past limit.Moment) false else if nat_lt answer moment then waits moment else rests

-- time went on towards a moment
pub record GoesTowards (moment answer : ℕ) (old new : World) : Type 0 where
  pub sound : IsSound old.site
  pub reaches : Reaches moment answer old.site new.site
  pub sides : SameSides old new
  pub notes : new.notes ≡ record old.notes { asked = Some moment }
  pub phase : new.phase ≡ after_reach moment answer

-- a filter that stands here has an act of the run
pub record HasRun (w : World) (agent : ℕ) : Type 0 where
  pub v : ActuatorView
  pub there : slice_get w.filters (agent - 1) ≡ Some v
  pub has : Any (λ (act : Act). act.run ≡ w.engine.history.seen.run) v.acts

-- The opening, once all files are open: no filter that stands here has an act of a run whose journal is empty, and the clock is
-- asked for the moment of the last record, 0 where there is none.
pub record OpensClock (answer : ℕ) (old new : World) : Type 0 where
  pub phase : old.phase ≡ opened
  pub whole : IsWhole old.engine old.site
  pub unused : old.engine.history.records ≡ [] → (agent : ℕ) → 1 ≤ agent → agent ≤ 16 → HasRun old agent → ⊥
  pub goes : GoesTowards old.engine.history.seen.moment answer old new

-- the journal is empty, and of the filters that stand here this is the least that has an act of the run
pub record FindsRunUsed (agent : ℕ) (old new : World) : Type 0 where
  pub phase : old.phase ≡ opened
  pub empty : old.engine.history.records ≡ []
  pub low : 1 ≤ agent
  pub high : agent ≤ 16
  pub has : HasRun old agent
  pub least : (lower : ℕ) → 1 ≤ lower → lower < agent → HasRun old lower → ⊥
  pub only : OnlyPhase old new (refused (run_used agent) false)

-- the end of a turn: the clock is asked for what comes next, which is within the limit
pub record AsksClock (moment answer : ℕ) (old new : World) : Type 0 where
  pub next : ComesNext old moment
  pub in_time : moment ≤ last_moment
  pub goes : GoesTowards moment answer old new

-- what comes next is past the limit
pub record FindsLate (moment : ℕ) (old new : World) : Type 0 where
  pub next : ComesNext old moment
  pub late : last_moment < moment
  pub only : OnlyPhase old new (refused (past limit.Moment) false)

-- ---- records

-- the journal is empty, and the Begin is appended
pub record Begins (old new : World) : Type 0 where
  pub phase : old.phase ≡ rests
  pub sound : IsSound old.site
  pub whole : IsWhole old.engine old.site
  pub empty : old.engine.history.records ≡ []
  pub budget : 1 ≤ old.notes.left
  pub tries : Tries (IsBeginning old.engine.history old.site.clock.now) old new

-- a move is enabled, and its record is appended
pub record Moves (old new : World) : Type 0 where
  pub has_looked : HasLooked old
  pub tries : Tries (IsMove old.engine.history old.site.clock.now) old new

-- an operator told of an issue, and the run is not upgraded yet: it is
pub record Upgrades (issue : ℕ) (told : OperatorAnswer) (old new : World) : Type 0 where
  pub to_be_told : IsToBeTold old issue told
  pub earlier : old.engine.history.seen.lists.is_upgraded ≡ false
  pub tries : Tries (Is (entry.Upgrade 2 old.site.clock.now)) old new

-- an operator told of an issue: it ends so
pub record Tells (issue : ℕ) (told : OperatorAnswer) (old new : World) : Type 0 where
  pub to_be_told : IsToBeTold old issue told
  pub upgraded : old.engine.history.seen.lists.is_upgraded ≡ true
  pub tries : Tries (Is (entry.Told issue old.site.clock.now told.status told.text)) old new

-- the least issue that is at or past its deadline expires
pub record Expires (issue : ℕ) (old new : World) : Type 0 where
  pub overdue : IsOverdue old issue
  pub tries : Tries (Is (entry.Expire issue old.site.clock.now)) old new

-- ---- lines

-- the bytes are the line of the last record
pub record IsLastLine (v : EngineView) (bytes : List ℕ) : Type 0 where
  pub n : ℕ
  pub last : n + 1 ≡ length v.history.records
  pub line : IsLineAt v.history n bytes

-- the line of the last record was handed to the site
pub record Speaks (bytes : List ℕ) (old new : World) : Type 0 where
  pub phase : old.phase ≡ owes
  pub sound : IsSound old.site
  pub up : IsUp old.engine old.site
  pub line : IsLastLine old.engine bytes
  pub only : SaysOnly old.site new.site
  pub sides : SameSides old new
  pub notes : new.notes ≡ old.notes

-- and it was said
pub record Says (bytes : List ℕ) (old new : World) : Type 0 where
  pub speaks : Speaks bytes old new
  pub said : Gains old.site.link.said (new.site.disk.beat, bytes) new.site.link.said
  pub counted : new.site.counts.unsaid ≡ old.site.counts.unsaid
  pub phase : new.phase ≡ rests

-- or it was not, and that was counted
pub record FailsToSay (bytes : List ℕ) (old new : World) : Type 0 where
  pub speaks : Speaks bytes old new
  pub unsaid : new.site.link.said ≡ old.site.link.said
  pub counted : new.site.counts.unsaid ≡ next_count old.site.counts.unsaid
  pub phase : new.phase ≡ refused not_said true

-- ---- commands

-- the command of an issue was put
pub record PutsCommand (issue : ℕ) (old new : World) : Type 0 where
  pub sends : Sends old.engine new.engine issue old.site.clock.now old.site new.site
  pub engine : IsEngine new.engine new.site
  pub filters : new.filters ≡ old.filters
  pub notes : new.notes ≡ record old.notes { put = old.notes.put ++ issue ∷ [] }
  pub phase : new.phase ≡ rests

-- Each issue that waits for a filter is put before a turn begins, in order of number: those that wait once the files are open,
-- and that of a new Send.
pub record PutsFirst (issue : ℕ) (old new : World) : Type 0 where
  pub phase : old.phase ≡ rests
  pub sound : IsSound old.site
  pub up : IsUp old.engine old.site
  pub first : puts_of old.engine.puts issue ≡ None
  pub least : (lower : ℕ) (it : Issue) → lower < issue → IsWaiting old.engine.history.seen lower it
      → puts_of old.engine.puts lower ≢ None
  pub puts : PutsCommand issue old new

-- a resend is due
pub record Resends (issue : ℕ) (old new : World) : Type 0 where
  pub due : IsToBeResent old issue
  pub puts : PutsCommand issue old new

-- ---- parcels

-- a parcel was taken
pub record Takes (parcel : Parcel) (old new : World) : Type 0 where
  pub turn : BeginsTurn old
  pub only : TakesOnly old.site new.site
  pub some : TakesSome parcel old.site new.site
  pub sides : SameSides old new
  pub notes : new.notes ≡ old.notes
  pub phase : new.phase ≡ holds new.site.disk.beat parcel

-- none was there
pub record FindsNone (old new : World) : Type 0 where
  pub turn : BeginsTurn old
  pub only : TakesOnly old.site new.site
  pub none : TakesNone old.site new.site
  pub sides : SameSides old new
  pub notes : new.notes ≡ old.notes
  pub phase : new.phase ≡ looked

-- memory was wanted for a parcel, and it stays pending
pub record FailsToTake (old new : World) : Type 0 where
  pub turn : BeginsTurn old
  pub only : TakesOnly old.site new.site
  pub link : new.site.link ≡ old.site.link
  pub sides : SameSides old new
  pub notes : new.notes ≡ old.notes
  pub phase : new.phase ≡ refused wants_memory false

-- the parcel is for an agent 1 to 16, and has at most 1,048,576 bytes
pub record IsAddressed (parcel : Parcel) : Type 0 where
  pub low : 1 ≤ parcel.agent
  pub high : parcel.agent ≤ 16
  pub small : length parcel.bytes ≤ 1_048_576

-- a parcel in hand changed neither journal, and is counted
pub record Ignores (old new : World) : Type 0 where
  pub calm : old.notes.ignored < most_ignored
  pub engine : new.engine ≡ old.engine
  pub filters : new.filters ≡ old.filters
  pub notes : new.notes ≡ record old.notes { ignored = old.notes.ignored + 1 }
  pub phase : new.phase ≡ rests

-- a command for whose agent no filter stands here
pub record LacksFilter (w : World) (parcel : Parcel) : Type 0 where
  pub addressed : IsAddressed parcel
  pub is_command : parcel.back ≡ false
  pub none : slice_get w.filters (parcel.agent - 1) ≡ None

-- A parcel for no agent, or with too many bytes, is dropped, and so is a command for whose agent no filter stands here.
pub record Drops (beat : ℕ) (parcel : Parcel) (old new : World) : Type 0 where
  pub phase : old.phase ≡ holds beat parcel
  pub why : (IsAddressed parcel → ⊥) ⊎ LacksFilter old parcel
  pub site : new.site ≡ old.site
  pub ignores : Ignores old new

-- a reply is in hand
pub record HoldsReply (beat : ℕ) (parcel : Parcel) (w : World) : Type 0 where
  pub phase : w.phase ≡ holds beat parcel
  pub addressed : IsAddressed parcel
  pub back : parcel.back ≡ true

-- its Reply is appended
pub record Replies (beat : ℕ) (parcel : Parcel) (old new : World) : Type 0 where
  pub holds_reply : HoldsReply beat parcel old
  pub sound : IsSound old.site
  pub up : IsUp old.engine old.site
  pub budget : 1 ≤ old.notes.left
  pub tries : Tries (IsReply old.engine.history parcel old.site.clock.now) old new

-- it is no final reply of this run from the filter of an issue that waits
pub record IgnoresReply (beat : ℕ) (parcel : Parcel) (old new : World) : Type 0 where
  pub holds_reply : HoldsReply beat parcel old
  pub no_reply : (read : Answer) → IsReplyTo old.engine.history parcel read → ⊥
  pub site : new.site ≡ old.site
  pub ignores : Ignores old new

-- a command is in hand, for this filter; no image of the journal is empty
pub record HoldsCommand (beat : ℕ) (parcel : Parcel) (v : ActuatorView) (w : World) : Type 0 where
  pub phase : w.phase ≡ holds beat parcel
  pub addressed : IsAddressed parcel
  pub command : parcel.back ≡ false
  pub sound : IsSound w.site
  pub there : slice_get w.filters (parcel.agent - 1) ≡ Some v
  pub filter : IsFilter v parcel.agent w.site
  pub begun : IsTrue w.site.disk.told → HasBegun w.site w.site.disk.beat

-- the filter acts on it, and replies
pub record ActsOn (beat : ℕ) (parcel : Parcel) (v w : ActuatorView) (old new : World) : Type 0 where
  pub holds_command : HoldsCommand beat parcel v old
  pub acts : Acts v w parcel old.site.clock.now old.site new.site
  pub filter : IsFilter w parcel.agent new.site
  pub sound : IsSound new.site
  pub engine : new.engine ≡ old.engine
  pub filters : new.filters ≡ slice_set old.filters (parcel.agent - 1) w
  pub notes : new.notes
      ≡ record old.notes { acted = old.notes.acted ++ (parcel.agent, act_for v.acts parcel old.site.clock.now) ∷ [] }
  pub phase : new.phase ≡ rests

-- the filter has acted on it before, and replies again
pub record RepeatsReply (beat : ℕ) (parcel : Parcel) (v w : ActuatorView) (old new : World) : Type 0 where
  pub holds_command : HoldsCommand beat parcel v old
  pub repeats : Repeats v w parcel old.site new.site
  pub ignores : Ignores old new

-- why a filter refuses, and what the session then answers
abbrev pub IsActCause : ActError → ActuatorView → Parcel → World → World → Cause → Type 0
IsActCause act_error.Disk v parcel old new cause = Rose old.site.disk.faults new.site.disk.faults × (cause ≡ disk_failed)
IsActCause (act_error.Full needed) v parcel old new cause =
    Overflows v parcel old.site.clock.now needed × (cause ≡ past limit.Journal)
IsActCause act_error.Memory v parcel old new cause = cause ≡ wants_memory
IsActCause other v parcel old new cause = ⊥

-- nothing was done, and no act is unsure
pub record DoesNothing (old new : World) : Type 0 where
  pub site : new.site ≡ old.site
  pub notes : new.notes ≡ old.notes

-- the act may stand in the filter's file
pub record MayHaveActed (parcel : Parcel) (v : ActuatorView) (old new : World) : Type 0 where
  pub offers : Offers v parcel old.site.clock.now old.site new.site
  pub notes : new.notes ≡ record old.notes { unsure_act = Some (parcel.agent, act_for v.acts parcel old.site.clock.now) }

-- which of the two, where a filter refuses: an act is unsure where the disk failed, or where memory was wanted for a new act
abbrev pub Unsures : ActError → Parcel → ActuatorView → World → World → Type 0
Unsures act_error.Disk parcel v old new = MayHaveActed parcel v old new
Unsures act_error.Memory parcel v old new = DoesNothing old new ⊎ MayHaveActed parcel v old new
Unsures other parcel v old new = DoesNothing old new

-- the filter refuses, and its act may stand in its file
pub record FailsToAct (beat : ℕ) (parcel : Parcel) (v w : ActuatorView) (error : ActError) (cause : Cause)
    (old new : World) : Type 0 where
  pub holds_command : HoldsCommand beat parcel v old
  pub refuses : Refuses v w parcel old.site.clock.now error old.site new.site
  pub why : IsActCause error v parcel old new cause
  pub engine : new.engine ≡ old.engine
  pub filters : new.filters ≡ slice_set old.filters (parcel.agent - 1) w
  pub notes : Unsures error parcel v old new
  pub phase : new.phase ≡ refused cause false

-- ---- all

-- memory was wanted, and nothing happened
pub record WantsMemory (old new : World) : Type 0 where
  pub going : IsGoing old.phase
  pub only : OnlyPhase old new (refused wants_memory (owes_line old.phase))

-- one call of a session
pub data Step (old new : World) : Type 0 where
  opens_clock : (answer : ℕ) → OpensClock answer old new → Step old new
  finds_run_used : (agent : ℕ) → FindsRunUsed agent old new → Step old new
  asks_clock : (moment answer : ℕ) → AsksClock moment answer old new → Step old new
  finds_late : (moment : ℕ) → FindsLate moment old new → Step old new
  begins : Begins old new → Step old new
  moves : Moves old new → Step old new
  upgrades : (issue : ℕ) (told : OperatorAnswer) → Upgrades issue told old new → Step old new
  tells : (issue : ℕ) (told : OperatorAnswer) → Tells issue told old new → Step old new
  expires : (issue : ℕ) → Expires issue old new → Step old new
  says : (bytes : List ℕ) → Says bytes old new → Step old new
  fails_to_say : (bytes : List ℕ) → FailsToSay bytes old new → Step old new
  puts_first : (issue : ℕ) → PutsFirst issue old new → Step old new
  resends : (issue : ℕ) → Resends issue old new → Step old new
  takes : (parcel : Parcel) → Takes parcel old new → Step old new
  finds_none : FindsNone old new → Step old new
  fails_to_take : FailsToTake old new → Step old new
  drops : (beat : ℕ) (parcel : Parcel) → Drops beat parcel old new → Step old new
  replies : (beat : ℕ) (parcel : Parcel) → Replies beat parcel old new → Step old new
  ignores_reply : (beat : ℕ) (parcel : Parcel) → IgnoresReply beat parcel old new → Step old new
  acts_on : (beat : ℕ) (parcel : Parcel) (v w : ActuatorView) → ActsOn beat parcel v w old new → Step old new
  repeats_reply : (beat : ℕ) (parcel : Parcel) (v w : ActuatorView) → RepeatsReply beat parcel v w old new → Step old new
  fails_to_act : (beat : ℕ) (parcel : Parcel) (v w : ActuatorView) (error : ActError) (cause : Cause)
      → FailsToAct beat parcel v w error cause old new → Step old new
  wants_memory_now : WantsMemory old new → Step old new

-- calls in a row
pub data Steps : World → World → Type 0 where
  nothing : {world : World} → Steps world world
  and_then : {old mid new : World} → Steps old mid → Step mid new → Steps old new
