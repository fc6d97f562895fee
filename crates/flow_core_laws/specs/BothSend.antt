-- Promise: A Send behind one of another task has the same filled content, and bytes that differ in its number alone.
use Rattle.std.specs.Prelude.{◌≡◌, ℕ, ◌≤◌, List, length}
use Rattle.serde_json.specs.Data.{Data}
use Rattle.run_records.specs.declared.record.Record.{Record}
use Rattle.run_records.specs.declared.record.Record.TheVariants as entry
use Rattle.cacao_text.specs.Canon.{canon}
use Rattle.flow_core_rules.specs.Givens.{Given}
use Rattle.flow_core_rules.specs.State.{State, shown}
use Rattle.flow_core_rules.specs.Filled.{addressed}
use Rattle.flow_core_rules.specs.Changes.{moment_of}
use Rattle.flow_core_rules.specs.Runs.{Next, Leads, IsEnabled}
use Rattle.flow_core_laws.specs.Reads.{reads, writes_of}
use Rattle.flow_core_laws.specs.BothOrders.{AreOfTwoTasks, AreDisjoint}

-- the command of then: its content is filled as before, under the number of issues of then
pub record SendsAgain (s new : State) (t n agent now : ℕ) (bytes : List ℕ) : Type 0 where
  pub content : Data
  pub again : List ℕ
  pub was : bytes ≡ canon (addressed s.run n content)
  pub again_is : again ≡ canon (addressed s.run (length new.issues) content)
  pub comes : IsEnabled new (entry.Send t (length new.issues) agent now again)

-- So it is in each state of a run, behind a record of another task that writes nothing that the Send refers to.
abbrev pub BothMaySend : Type 0
BothMaySend =
    (given : Given) (run : ℕ) (records : List Record) (s a b : State) (one : Record) (t n agent now : ℕ) (bytes : List ℕ)
    → Leads given run records s → Next s one a → Next s (entry.Send t n agent now bytes) b
    → AreOfTwoTasks s one (entry.Send t n agent now bytes) → moment_of one ≤ now
    → AreDisjoint (writes_of (shown s) one) (reads (shown s) (entry.Send t n agent now bytes))
    → SendsAgain s a t n agent now bytes
