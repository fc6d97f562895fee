-- Promise: What was answered in a session that lost no parcel.
use Rattle.std.specs.Prelude.{◌≡◌, ◌≢◌, ℕ, ◌-◌, ◌≤◌, Bool, List, [], ◌∷◌, ◌++◌, Some, IfSome, IsSome, Contains, slice_get, ⊤}
use Rattle.cacao_site.specs.Counts.{DidNotRise}
use Rattle.cacao_site.specs.Sound.{IsSound}
use Rattle.cacao_site.specs.View.{SiteView}
use Rattle.run_records.specs.declared.record.Record.{Record}
use Rattle.run_records.specs.declared.record.Record.TheVariants as entry
use Rattle.flow_core_rules.specs.Changes.{outcome}
use Rattle.flow_core_rules.specs.Givens.{Given}
use Rattle.flow_core_rules.specs.declared.issues.Issue.{Issue}
use Rattle.flow_engine_answers.specs.declared.answers.OperatorAnswer.{OperatorAnswer}
use Rattle.flow_laws.specs.Acts.{HasReply, ReadsAs}
use Rattle.flow_laws.specs.Held.{plain}
use Rattle.flow_laws.specs.Journals.{IsSent}
use Rattle.flow_laws.specs.Since.{AgreedSince}
use Rattle.slpf_actuator.specs.ActuatorView.{ActuatorView}
use Rattle.flow_world_steps.specs.Complete.{HasActed}
use Rattle.flow_world_steps.specs.Steps.{Steps, Tells}
use Rattle.flow_world_steps.specs.Unbroken.{AreFiltersSure, IsJournalSure}
use Rattle.flow_world_steps.specs.Whole.{IsOpened}
use Rattle.flow_world_steps.specs.Worlds.{HasAllFilters, World, looked}
use Rattle.flow_world.specs.Sessions.{HasClosed}
use Rattle.flow_world.specs.Close.TheVariants as close

-- ---- operators tell of questions alone

-- Where nothing was put at first and each agent's filter stands, while no parcel is lost, doubled or held back, and pending
-- parcels are told: an operator tells of no issue of a filter.
abbrev pub NoTold : Type 0
NoTold =
    (a old new : World) → HasAllFilters a → a.engine.puts ≡ [] → a.phase ≢ looked
    → DidNotRise a.site.counts.mishaps old.site.counts.mishaps → Steps a old → IsSome old.site.link.pending
    → (issue : ℕ) (told : OperatorAnswer) → Tells issue told old new
    → (it : Issue) → slice_get old.engine.history.seen.lists.issues issue ≡ Some it → it.agent ≡ 0

-- an operator was asked the issue, and it was sent to no filter
pub record IsQuestion (records : List Record) (issue : ℕ) : Type 0 where
  pub task : ℕ
  pub moment : ℕ
  pub text : List ℕ
  pub asked : Contains records (entry.Ask task issue moment text)
  pub not_sent : (agent : ℕ) (bytes : List ℕ) → IsSent records issue agent bytes → ⊥

-- the record is no Told of an issue of a filter
abbrev pub IsNoToldOfFilter : List Record → Record → Type 0
IsNoToldOfFilter records (entry.Told issue moment status text) = IsQuestion records issue
IsNoToldOfFilter records other = ⊤

-- no record that was added is one, also none that may stand after a fault
pub record TellsNoFilter (a b : World) : Type 0 where
  pub added : (front back : List Record) (r : Record)
      → b.engine.history.records ≡ (a.engine.history.records ++ front) ++ r ∷ back → IsNoToldOfFilter b.engine.history.records r
  pub unsure : IfSome b.notes.unsure (IsNoToldOfFilter b.engine.history.records)

-- so it is from an opening of all filters on, while no parcel is lost, doubled or held back, and pending parcels are told
abbrev pub NoToldOfFilters : Type 0
NoToldOfFilters =
    (a b : World) (given : Given) (run most : ℕ) (answers : List OperatorAnswer) → IsOpened a given run most answers
    → HasAllFilters a → IsSome a.site.link.pending
    → DidNotRise a.site.counts.mishaps b.site.counts.mishaps → Steps a b → TellsNoFilter a b

-- ---- each Send is answered

-- a Reply of the issue stands among the records
pub record IsReplied (records : List Record) (issue : ℕ) : Type 0 where
  pub moment : ℕ
  pub status : ℕ
  pub rule : ℕ
  pub text : List ℕ
  pub has : Contains records (entry.Reply issue moment status rule text)

-- So it is of each Send, where besides the journal was empty and the run has ended.
abbrev pub EachSendIsAnswered : Type 0
EachSendIsAnswered =
    (a b : World) (given : Given) (run most : ℕ) (answers : List OperatorAnswer) → IsOpened a given run most answers
    → HasAllFilters a → a.engine.history.records ≡ [] → IsSome a.site.link.pending
    → DidNotRise a.site.counts.mishaps b.site.counts.mishaps → Steps a b → (well : Bool) → outcome b.engine.history.seen.lists ≡ Some well → (task issue agent moment : ℕ) (bytes : List ℕ)
    → Contains b.engine.history.records (entry.Send task issue agent moment bytes) → IsReplied b.engine.history.records issue

-- ---- each Reply has its act

-- Where agreement was kept since the start, the files are whole and each agent's filter stands, the issue of each Reply was sent
-- to an agent whose filter has an act of the run and issue, and the act's reply reads as the Reply says.
abbrev pub EachReplyHasItsAct : Type 0
EachReplyHasItsAct =
    (start : SiteView) (w : World) → AgreedSince plain start w.site → IsSound w.site → IsJournalSure w → AreFiltersSure w
    → HasAllFilters w → (issue moment status rule : ℕ) (text : List ℕ)
    → Contains w.engine.history.records (entry.Reply issue moment status rule text) → HasActed w issue (ReadsAs status rule text)

-- ---- each Send has its act and its Reply

-- the filter of the agent has an act of the run and issue on this command, and a Reply of the issue is what the act's reply
-- reads as
pub record HasActAndReply (w : World) (issue agent : ℕ) (bytes : List ℕ) : Type 0 where
  pub moment : ℕ
  pub status : ℕ
  pub rule : ℕ
  pub text : List ℕ
  pub has : Contains w.engine.history.records (entry.Reply issue moment status rule text)
  pub low : 1 ≤ agent
  pub high : agent ≤ 16
  pub v : ActuatorView
  pub there : slice_get w.filters (agent - 1) ≡ Some v
  pub reply : HasReply v.acts w.engine.history.seen.run issue (ReadsAs status rule text)
  pub command : reply.act.command ≡ bytes

-- So it is of each Send of a session that began with an empty journal and closed because the run had ended, where it lost,
-- doubled and held back no parcel, pending parcels were told, and agreement was kept.
abbrev pub EachSendIsActedOn : Type 0
EachSendIsActedOn =
    (well : Bool) (given : Given) (run most : ℕ) (answers : List OperatorAnswer) (old new : SiteView)
    → (closed : HasClosed (close.Ended well) given run most answers old new) → closed.went.start.engine.history.records ≡ []
    → IsSome old.link.pending → DidNotRise old.counts.mishaps new.counts.mishaps → AgreedSince plain old new → IsSound new
    → (task issue agent moment : ℕ) (bytes : List ℕ)
    → Contains closed.went.to.engine.history.records (entry.Send task issue agent moment bytes)
    → HasActAndReply closed.went.to issue agent bytes
