-- Promise: What a session adds up to that lost no parcel.
use Rattle.std.specs.Prelude.{◌≡◌, ℕ, ◌-◌, ◌≤◌, List, [], ◌∷◌, ◌++◌, Some, None, IfSome, IsSome, Contains, slice_get, ⊤}
use Rattle.cacao_site.specs.Counts.{DidNotRise}
use Rattle.cacao_site.specs.Sound.{IsSound}
use Rattle.cacao_site.specs.View.{SiteView}
use Rattle.run_records.specs.declared.record.Record.{Record}
use Rattle.run_records.specs.declared.record.Record.TheVariants as entry
use Rattle.flow_core_rules.specs.Changes.{outcome}
use Rattle.flow_core_rules.specs.Laws.{record_of_issue}
use Rattle.flow_core_rules.specs.declared.issues.Issue.{Issue}
use Rattle.flow_laws.specs.Acts.{HasReply, ReadsAs}
use Rattle.flow_laws.specs.Journals.{IsSent}
use Rattle.slpf_actuator.specs.ActuatorView.{ActuatorView}
use Rattle.flow_world_steps.specs.Agreement.{HasKept}
use Rattle.flow_world_steps.specs.Ready.{JournalStands}
use Rattle.flow_world_steps.specs.Steps.{Steps}
use Rattle.flow_world_steps.specs.Unbroken.{AreFiltersSure, IsJournalSure}
use Rattle.flow_world_steps.specs.Worlds.{World, HasAllFilters, opened}

-- no issue expires by this record
abbrev pub IsNoExpire : Record → Type 0
IsNoExpire (entry.Expire issue moment) = ⊥
IsNoExpire other = ⊤

-- the record is the Reply of this issue, or what an operator told of it
abbrev pub EndsIssue : ℕ → Record → Type 0
EndsIssue n (entry.Reply issue moment status rule text) = issue ≡ n
EndsIssue n (entry.Told issue moment status text) = issue ≡ n
EndsIssue n other = ⊥

-- the command or the question of an issue is among the records, and so is what ended its wait
pub record HasItsEnd (records : List Record) (n : ℕ) (it : Issue) : Type 0 where
  pub issued : Contains records (record_of_issue n it)
  pub last : Record
  pub among : Contains records last
  pub ends : EndsIssue n last

-- No issue expires, also by a record that may stand after a fault; and where the journal was empty and the run has ended, each issue has its end.
pub record IsComplete (a b : World) : Type 0 where
  pub none_expires : (front back : List Record) (r : Record)
      → b.engine.history.records ≡ (a.engine.history.records ++ front) ++ r ∷ back → IsNoExpire r
  pub none_unsure : a.notes.unsure ≡ None → IfSome b.notes.unsure IsNoExpire
  pub has_end : a.engine.history.records ≡ [] → IsSome (outcome b.engine.history.seen.lists) → (n : ℕ) (it : Issue)
      → slice_get b.engine.history.seen.lists.issues n ≡ Some it → HasItsEnd b.engine.history.records n it

-- ---- each Reply has its act

-- the issue was sent to this agent, whose filter has an act of the run and issue, and the act's reply has P
pub record HasActed (w : World) (issue : ℕ) (P : List ℕ → Type 0) : Type 0 where
  pub agent : ℕ
  pub low : 1 ≤ agent
  pub high : agent ≤ 16
  pub bytes : List ℕ
  pub sent : IsSent w.engine.history.records issue agent bytes
  pub v : ActuatorView
  pub there : slice_get w.filters (agent - 1) ≡ Some v
  pub reply : HasReply v.acts w.engine.history.seen.run issue P

-- So it is of each Reply of the journal, with what the reply reads as, where agreement was kept, the files are whole and each
-- agent's filter stands here.
abbrev pub EachReplyActed : Type 0
EachReplyActed =
    (start : SiteView) (w : World) → HasKept start w → IsSound w.site → IsJournalSure w → AreFiltersSure w → HasAllFilters w
    → (issue moment status rule : ℕ) (text : List ℕ)
    → Contains w.engine.history.records (entry.Reply issue moment status rule text) → HasActed w issue (ReadsAs status rule text)

-- ---- a session that lost nothing

-- from an opening of all filters where nothing was put, while no parcel is lost, doubled or held back, and pending ones are told
abbrev pub EachComplete : Type 0
EachComplete =
    (a b : World) → HasAllFilters a → a.phase ≡ opened → a.engine.puts ≡ [] → JournalStands a → IsSome a.site.link.pending
    → DidNotRise a.site.counts.mishaps b.site.counts.mishaps → Steps a b → IsComplete a b
