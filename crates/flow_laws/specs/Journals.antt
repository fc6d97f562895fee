-- Promise: What the records of a journal say: a run, its number, its commands, and their lines.
use Rattle.std.specs.Prelude.{◌≡◌, ℕ, ◌≤◌, List, [], ◌∷◌, length, All, Contains, Option, Some, None, ⊤}
use Rattle.serde_json.specs.Data.{Data}
use Rattle.run_records.specs.declared.record.Record.{Record}
use Rattle.run_records.specs.declared.record.Record.TheVariants as entry
use Rattle.cacao_check.specs.declared.breaks.Mode.TheVariants as mode
use Rattle.cacao_check.specs.FirstBreak.{IsAccepted}
use Rattle.cacao_check.specs.Fits.{FitsKind}
use Rattle.flow_core_rules.specs.Accepted.{Accepted, IsRun, IsRunOf}
use Rattle.flow_core_rules.specs.Givens.{Given}
use Rattle.flow_core_rules.specs.State.{State, Shown, shown}
use Rattle.flow_core_rules.specs.Runs.{Next, Leads}
use Rattle.flow_core_rules.specs.Laws.{ended_by}

-- the trees of one playbook or more break no rule in the mode of runs
abbrev pub AreAccepted : List Data → Type 0
AreAccepted trees = (1 ≤ length trees) × IsAccepted trees mode.Run

-- the records are a run of the workflow, or there are none
abbrev pub IsJournalRun : List Record → Type 0
IsJournalRun records = IsRun AreAccepted FitsKind records

-- the record may come next in this run
pub record IsNextStep (records : List Record) (next : Record) : Type 0 where
  pub before : IsRunOf AreAccepted FitsKind records
  pub after : State
  pub step : Next before.state next after

-- the number of the run: that of the Begin
abbrev pub run_of : List Record → Option ℕ
run_of (entry.Begin run moment books bind ∷ records) = Some run
run_of _ = None

-- a Send has this issue, agent and bytes
pub record IsSent (records : List Record) (issue agent : ℕ) (bytes : List ℕ) : Type 0 where
  pub task : ℕ
  pub moment : ℕ
  pub has : Contains records (entry.Send task issue agent moment bytes)

-- no Reply, Expire or Told of the issue stands there
abbrev pub IsOpen : List Record → ℕ → Type 0
IsOpen records issue = All (λ r. ¬ (ended_by r ≡ Some issue)) records

-- what a flow of accepted playbooks shows after these records
pub record IsShownAfter (records : List Record) (seen : Shown) : Type 0 where
  pub given : Given
  pub run : ℕ
  pub state : State
  pub accepted : Accepted AreAccepted FitsKind given.texts given.bind given
  pub leads : Leads given run records state
  pub is : seen ≡ shown state

-- the same where there are any; before the Begin nothing is shown, and its line asks for nothing
abbrev pub IsShownBefore : List Record → Shown → Type 0
IsShownBefore [] seen = ⊤
IsShownBefore (first ∷ records) seen = IsShownAfter (first ∷ records) seen
