-- Promise: What becomes of the parcels that a session takes.
use Rattle.std.specs.Prelude.{◌≡◌, ◌⊎◌, ℕ, ◌+◌, ◌-◌, ◌≤◌, true, false, List, [], ◌∷◌, ◌++◌, length, All, Contains, Some, None, IfSome, slice_get, ⊤}
use Rattle.cacao_site.specs.LinkCalls.{GainsAll}
use Rattle.cacao_site.specs.declared.parcel.Parcel.{Parcel}
use Rattle.oc2_msg.specs.declared.answers.Answer.{Answer}
use Rattle.oc2_msg.specs.Responses.{answer}
use Rattle.run_records.specs.declared.record.Record.{Record}
use Rattle.run_records.specs.declared.record.Record.TheVariants as entry
use Rattle.run_records.specs.declared.act.Act.{Act}
use Rattle.flow_engine.specs.EngineCalls.{IsReplyTo}
use Rattle.slpf_actuator.specs.ActuatorView.{ActuatorView}
use Rattle.flow_world_steps.specs.Steps.{Drops, IsAddressed, LacksFilter, Steps}
use Rattle.flow_world_steps.specs.Sums.{total}
use Rattle.flow_world_steps.specs.Worlds.{World, HasAllFilters, Phase, holds, refused}

-- a Reply is of a reply that was taken: one of this run and issue, whose bytes read as it says
abbrev pub IsTakenReply : ℕ → List (ℕ × Parcel) → Record → Type 0
IsTakenReply run taken (entry.Reply issue moment status rule text) =
    (e : ℕ × Parcel) × Contains taken e × (e.1.back ≡ true) × (e.1.run ≡ run) × (e.1.issue ≡ issue)
    × (answer e.1.bytes ≡ Some (record { status = status; rule = rule; text = text }))
IsTakenReply run taken other = ⊤

-- an act is of a command that was taken for its agent
abbrev pub IsTakenAct : List (ℕ × Parcel) → ℕ × Act → Type 0
IsTakenAct taken act =
    (e : ℕ × Parcel) × Contains taken e × (e.1.back ≡ false) × (e.1.agent ≡ act.0) × (e.1.run ≡ act.1.run)
    × (e.1.issue ≡ act.1.issue) × (e.1.bytes ≡ act.1.command)

-- the filter of the parcel's agent has an act of its run and issue
pub record HasItsAct (w : World) (parcel : Parcel) : Type 0 where
  pub filter : ActuatorView
  pub there : slice_get w.filters (parcel.agent - 1) ≡ Some filter
  pub act : Act
  pub has : Contains filter.acts act
  pub run : act.run ≡ parcel.run
  pub issue : act.issue ≡ parcel.issue

-- a command for an agent
pub record IsCommand (parcel : Parcel) : Type 0 where
  pub addressed : IsAddressed parcel
  pub command : parcel.back ≡ false

-- a reply from an agent
pub record IsBack (parcel : Parcel) : Type 0 where
  pub addressed : IsAddressed parcel
  pub back : parcel.back ≡ true

-- the Reply of the parcel's issue stands in the journal, with what its bytes read as
pub record HasItsReply (w : World) (parcel : Parcel) : Type 0 where
  pub read : Answer
  pub moment : ℕ
  pub has : Contains w.engine.history.records (entry.Reply parcel.issue moment read.status read.rule read.text)
  pub reads : answer parcel.bytes ≡ Some read

-- when it was in hand, as the one taken right behind those before it, it was no final reply of this run from the filter of an
-- issue that waits
pub record WasNoReply (a b : World) (front : List (ℕ × Parcel)) (e : ℕ × Parcel) : Type 0 where
  pub w : World
  pub before : Steps a w
  pub after : Steps w b
  pub in_hand : w.phase ≡ holds e.0 e.1
  pub place : GainsAll a.site.link.taken (front ++ e ∷ []) w.site.link.taken
  pub none : (read : Answer) → IsReplyTo w.engine.history e.1 read → ⊥

-- 1 for a Reply
abbrev pub one_reply : Record → ℕ
one_reply (entry.Reply issue moment status rule text) = 1
one_reply other = 0

-- what was taken and is not handed on yet; after a refusal the last parcel may be
abbrev pub IsAtHand : Phase → List (ℕ × Parcel) → Type 0
IsAtHand (holds beat parcel) parcels = parcels ≡ (beat, parcel) ∷ []
IsAtHand (refused cause lacks) parcels = length parcels ≤ 1
IsAtHand other parcels = parcels ≡ []

-- The parcels taken, and what became of them: each command has its act, where a filter stands here for its agent, and each reply
-- its Reply, where it is one; each act and each Reply is of a parcel that was taken, also one that may stand behind the others
-- after a fault; and each parcel handed on made an act, or a Reply, or is counted as one that changed nothing.
pub record Handles (a b : World) : Type 0 where
  pub handled : List (ℕ × Parcel)
  pub at_hand : List (ℕ × Parcel)
  pub takes : GainsAll a.site.link.taken (handled ++ at_hand) b.site.link.taken
  pub open_one : IsAtHand b.phase at_hand
  pub commands : All (λ e. IsCommand e.1 → HasItsAct b e.1 ⊎ LacksFilter b e.1) handled
  pub replies : (front back : List (ℕ × Parcel)) (e : ℕ × Parcel) → handled ≡ front ++ e ∷ back
      → IsBack e.1 → HasItsReply b e.1 ⊎ WasNoReply a b front e
  pub acted : List (ℕ × Act)
  pub acts : b.notes.acted ≡ a.notes.acted ++ acted
  pub of_acts : All (IsTakenAct (handled ++ at_hand)) acted
  pub added : List Record
  pub adds : b.engine.history.records ≡ a.engine.history.records ++ added
  pub of_replies : All (IsTakenReply a.engine.history.seen.run (handled ++ at_hand)) added
  pub of_unsure : a.notes.unsure ≡ None → IfSome b.notes.unsure (IsTakenReply a.engine.history.seen.run (handled ++ at_hand))
  pub of_unsure_act : a.notes.unsure_act ≡ None → IfSome b.notes.unsure_act (IsTakenAct (handled ++ at_hand))
  pub counted : length handled + a.notes.ignored ≡ b.notes.ignored + length acted + total one_reply added

abbrev pub EachHandles : Type 0
EachHandles = (a b : World) → IsAtHand a.phase [] → Steps a b → Handles a b

-- where each agent's filter stands, only a parcel for no agent, or with too many bytes, is dropped
abbrev pub DropsUnaddressed : Type 0
DropsUnaddressed =
    (beat : ℕ) (parcel : Parcel) (old new : World) → HasAllFilters old → Drops beat parcel old new → IsAddressed parcel → ⊥
