-- Promise: What becomes of the parcels that a fleet takes.
use Rattle.std.specs.Prelude.{◌≡◌, ◌⊎◌, ℕ, ◌-◌, List, [], ◌∷◌, ◌++◌, length, All, Contains, Option, Some, None, IfSome, slice_get}
use Rattle.cacao_site.specs.LinkCalls.{GainsAll}
use Rattle.cacao_site.specs.declared.parcel.Parcel.{Parcel}
use Rattle.oc2_msg.specs.declared.answers.Answer.{Answer}
use Rattle.oc2_msg.specs.Responses.{answer}
use Rattle.run_records.specs.declared.act.Act.{Act}
use Rattle.run_records.specs.declared.record.Record.{Record}
use Rattle.run_records.specs.declared.record.Record.TheVariants as entry
use Rattle.flow_engine.specs.EngineCalls.{IsReplyTo}
use Rattle.flow_engine.specs.EngineView.{EngineView}
use Rattle.slpf_actuator.specs.ActuatorView.{ActuatorView}
use Rattle.flow_world_steps.specs.Handled.{IsAtHand, IsBack, IsCommand, IsTakenAct, IsTakenReply}
use Rattle.flow_world_steps.specs.Worlds.{holds}
use Rattle.flow_fleet_steps.specs.Steps.{FleetSteps}
use Rattle.flow_fleet_steps.specs.Worlds.{EachRun, FleetWorld}

-- the filter of the parcel's agent has an act of its run and issue
pub record HasItsActIn (filters : List ActuatorView) (parcel : Parcel) : Type 0 where
  pub filter : ActuatorView
  pub there : slice_get filters (parcel.agent - 1) ≡ Some filter
  pub act : Act
  pub has : Contains filter.acts act
  pub run : act.run ≡ parcel.run
  pub issue : act.issue ≡ parcel.issue

-- the Reply of the parcel's issue stands in the journal of its run, with what its bytes read as
pub record HasItsReplyIn (engines : List EngineView) (parcel : Parcel) : Type 0 where
  pub place : ℕ
  pub v : EngineView
  pub there : slice_get engines place ≡ Some v
  pub of_run : parcel.run ≡ v.history.seen.run
  pub read : Answer
  pub moment : ℕ
  pub has : Contains v.history.records (entry.Reply parcel.issue moment read.status read.rule read.text)
  pub reads : answer parcel.bytes ≡ Some read

-- it is no final reply to an issue of any run that waits, from the issue's filter
abbrev pub IsNoReplyIn : List EngineView → Parcel → Type 0
IsNoReplyIn engines parcel = EachRun engines (λ place v. (read : Answer) → IsReplyTo v.history parcel read → ⊥)

-- so it was when it was in hand, as the one taken right behind those before it
pub record WasNoReplyIn (a b : FleetWorld) (front : List (ℕ × Parcel)) (e : ℕ × Parcel) : Type 0 where
  pub w : FleetWorld
  pub before : FleetSteps a w
  pub after : FleetSteps w b
  pub in_hand : w.phase ≡ holds e.0 e.1
  pub place : GainsAll a.site.link.taken (front ++ e ∷ []) w.site.link.taken
  pub none : IsNoReplyIn w.engines e.1

-- One run, from one world to a later one: it kept its number, and behind the records that its journal held stand those that
-- were appended. Each Reply among these is of a reply of this run that was taken; so is one that may stand behind them after a
-- fault.
pub record RepliesAreTaken (taken : List (ℕ × Parcel)) (v w : EngineView) (before now : Option Record) : Type 0 where
  pub run : w.history.seen.run ≡ v.history.seen.run
  pub added : List Record
  pub adds : w.history.records ≡ v.history.records ++ added
  pub of_replies : All (IsTakenReply v.history.seen.run taken) added
  pub of_unsure : before ≡ None → IfSome now (IsTakenReply v.history.seen.run taken)

-- The parcels taken, and what became of them: each command has its act, and each reply its Reply in the journal of its run,
-- where it is one. Each act that was appended, of whatever run, is of a command that was taken, and each Reply of a reply of
-- its run.
pub record FleetHandles (a b : FleetWorld) : Type 0 where
  pub handled : List (ℕ × Parcel)
  pub at_hand : List (ℕ × Parcel)
  pub takes : GainsAll a.site.link.taken (handled ++ at_hand) b.site.link.taken
  pub open_one : IsAtHand b.phase at_hand
  pub commands : All (λ e. IsCommand e.1 → HasItsActIn b.filters e.1) handled
  pub replies : (front back : List (ℕ × Parcel)) (e : ℕ × Parcel) → handled ≡ front ++ e ∷ back
      → IsBack e.1 → HasItsReplyIn b.engines e.1 ⊎ WasNoReplyIn a b front e
  pub acted : List (ℕ × Act)
  pub acts : b.notes.acted ≡ a.notes.acted ++ acted
  pub of_acts : All (IsTakenAct (handled ++ at_hand)) acted
  pub of_unsure_act : a.notes.unsure_act ≡ None → IfSome b.notes.unsure_act (IsTakenAct (handled ++ at_hand))
  pub many : length b.engines ≡ length a.engines
  pub runs : (place : ℕ) (v w : EngineView) → slice_get a.engines place ≡ Some v → slice_get b.engines place ≡ Some w
      → RepliesAreTaken (handled ++ at_hand) v w (a.own place).unsure (b.own place).unsure

abbrev pub EachFleetHandles : Type 0
EachFleetHandles = (a b : FleetWorld) → IsAtHand a.phase [] → FleetSteps a b → FleetHandles a b
