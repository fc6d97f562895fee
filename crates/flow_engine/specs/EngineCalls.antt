-- Promise: What the calls of an engine do.
use Rattle.std.specs.Prelude.{◌≡◌, ◌≢◌, ℕ, ◌<◌, ◌≤◌, true, false, List, [], length, Option, Some, IsSome, option_and_then, option_map, slice_get}
use Rattle.cacao_site.specs.declared.parcel.Parcel.{Parcel}
use Rattle.cacao_site.specs.SiteCalls.{Puts}
use Rattle.cacao_site.specs.View.{SiteView}
use Rattle.oc2_msg.specs.declared.answers.Answer.{Answer}
use Rattle.oc2_msg.specs.Responses.{answer}
use Rattle.run_records.specs.Ranges.{InRange}
use Rattle.run_records.specs.declared.record.Record.{Record}
use Rattle.run_records.specs.declared.record.Record.TheVariants as entry
use Rattle.flow_core_rules.specs.Changes.{is_waiting}
use Rattle.flow_core_rules.specs.Laws.{HasRecords}
use Rattle.flow_core_rules.specs.Moves.{deadline_of, enabled_move, record_of}
use Rattle.flow_core_rules.specs.Runs.{begin_of}
use Rattle.flow_core_rules.specs.State.{Shown}
use Rattle.flow_core_rules.specs.declared.issues.Issue.{Issue}
use Rattle.flow_core_rules.specs.declared.moves.Move.{Move}
use Rattle.flow_engine_history.specs.Flows.{HasSizes, IsReached}
use Rattle.flow_engine_history.specs.Setups.{IsSetup}
use Rattle.flow_engine_history.specs.Views.{taken}
use Rattle.flow_engine_history.specs.HistoryCalls.{Adds, Refuses}
use Rattle.flow_engine_history.specs.HistoryView.{HistoryView, flow_of}
use Rattle.flow_engine_history.specs.declared.error.EngineError.{EngineError}
use Rattle.flow_engine.specs.EngineView.{EngineView}
use Rattle.flow_engine.specs.OpenIssues.{puts_of, with_put, without_ended}

-- ---- the record that a call appends: `expire`, `upgrade` and `told` say the record itself

-- `start`: the Begin of the run
pub record IsBeginning (h : HistoryView) (moment : ℕ) (next : Record) : Type 0 where
  pub empty : h.records ≡ []
  pub is : next ≡ begin_of h.seen.given h.seen.run moment

-- `step`: that of the enabled move
pub record IsMove (h : HistoryView) (moment : ℕ) (next : Record) : Type 0 where
  pub move : Move
  pub enabled : enabled_move h.seen moment ≡ Some move
  pub is : record_of h.seen moment move ≡ Some next

-- an issue is there and waits for a filter
pub record IsWaiting (seen : Shown) (issue : ℕ) (it : Issue) : Type 0 where
  pub there : slice_get seen.lists.issues issue ≡ Some it
  pub waits : is_waiting it.phase ≡ true
  pub of_filter : it.agent ≢ 0

-- a parcel is a reply of this run from the filter of a waiting issue
pub record IsFromFilter (h : HistoryView) (parcel : Parcel) : Type 0 where
  pub back : parcel.back ≡ true
  pub of_run : parcel.run ≡ h.seen.run
  pub it : Issue
  pub waiting : IsWaiting h.seen parcel.issue it
  pub of_agent : parcel.agent ≡ it.agent

-- bytes read as a response with a status other than 102
pub record IsFinal (bytes : List ℕ) (read : Answer) : Type 0 where
  pub reads : answer bytes ≡ Some read
  pub final : read.status ≢ 102

-- such a reply, whose bytes read so
pub record IsReplyTo (h : HistoryView) (parcel : Parcel) (read : Answer) : Type 0 where
  pub sent_back : IsFromFilter h parcel
  pub read_is : IsFinal parcel.bytes read

-- `reply`: the Reply of the parcel's issue, with what its bytes read as
pub record IsReply (h : HistoryView) (parcel : Parcel) (moment : ℕ) (next : Record) : Type 0 where
  pub read : Answer
  pub to : IsReplyTo h parcel read
  pub is : next ≡ entry.Reply parcel.issue moment read.status read.rule read.text

-- ---- where it comes

-- What holds of the run of an engine: it shows the state after so many records, within the limits, of what a setup gives.
pub record IsStanding (h : HistoryView) : Type 0 where
  pub reached : IsReached (length h.records) h.seen
  pub sizes : HasSizes (length h.records) h.seen
  pub setup : IsSetup h.seen.given
  pub few : length h.records < 67_108_864

-- a record may come next, and its fields are in range
pub record IsComing (h : HistoryView) (next : Record) : Type 0 where
  pub comes : IsSome (taken (flow_of h) next)
  pub in_range : InRange next

-- ---- what becomes of it

-- it was added, and the issue that it ends, if it ends one, is no longer open
pub record Appends (v w : EngineView) (IsNext : Record → Type 0) (old new : SiteView) : Type 0 where
  pub adds : Adds v.history w.history IsNext old new
  pub puts : w.puts ≡ without_ended v.puts adds.offers.comes.next

-- each refusal with its cause and what it left; no issue was put or ended
abbrev pub Refused : EngineView → EngineView → (Record → Type 0) → EngineError → SiteView → SiteView → Type 0
Refused v w IsNext error old new = Refuses v.history w.history IsNext error old new × (w.puts ≡ v.puts)

-- ---- commands

-- the command of an issue
abbrev pub command_of : HistoryView → ℕ → Issue → Parcel
command_of h issue it = record { agent = it.agent; back = false; run = h.seen.run; issue = issue; bytes = it.bytes }

-- The issue waits for a filter of 1 to 16; its Send stands among the records, with at most 1,048,576 bytes, and none ends it.
pub record IsOpen (h : HistoryView) (issue : ℕ) (it : Issue) : Type 0 where
  pub waiting : IsWaiting h.seen issue it
  pub has : HasRecords h.records issue it
  pub low : 1 ≤ it.agent
  pub high : it.agent ≤ 16
  pub small : length it.bytes ≤ 1_048_576

-- the deadline of an issue that was put
abbrev pub put_deadline : EngineView → ℕ → Option ℕ
put_deadline v issue =
    option_and_then (λ puts. option_map (deadline_of v.history.seen) (slice_get v.history.seen.lists.issues issue))
    (puts_of v.puts issue)

-- the command of an open issue was put, and counted; nothing else changed
pub record Sends (v w : EngineView) (issue moment : ℕ) (old new : SiteView) : Type 0 where
  pub whole : v.history.broken ≡ false
  pub it : Issue
  pub is_open : IsOpen v.history issue it
  pub put : Puts (command_of v.history issue it) old new
  pub view : w ≡ record v { puts = with_put v.puts issue moment }
