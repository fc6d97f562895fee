-- Promise: The engine and the filters of a session between calls.
use Rattle.std.specs.Prelude.{◌≡◌, ◌≢◌, ◌⊎◌, ℕ, ◌≤◌, suc, false, List, [], ◌∷◌, ◌++◌, length, Option, Some, None, slice_get, nat_eq, ◌+◌, if◌then◌else◌}
use Rattle.cacao_site.specs.View.{SiteView}
use Rattle.run_records.specs.declared.record.Record.{Record}
use Rattle.flow_engine.specs.HistoryView.{HoldsRecords, IsReady}
use Rattle.flow_engine.specs.Histories.{IsHistory}
use Rattle.flow_engine.specs.EngineCalls.{IsWaiting}
use Rattle.flow_engine.specs.EngineView.{EngineView}
use Rattle.flow_engine.specs.OpenIssues.{ArePut, puts_of}
use Rattle.flow_core_rules.specs.declared.issues.Issue.{Issue}
use Rattle.slpf_actuator.specs.ActuatorView.{ActuatorView}
use Rattle.slpf_actuator.specs.ActuatorView as filter

-- an engine between its calls, also where the disk failed
pub record IsEngine (v : EngineView) (site : SiteView) : Type 0 where
  pub ready : IsReady v.history site
  pub history : IsHistory v.history
  pub put : ArePut v.history.seen v.puts

-- an engine whose file holds its records
pub record IsWhole (v : EngineView) (site : SiteView) : Type 0 where
  pub engine : IsEngine v site
  pub whole : v.history.broken ≡ false

-- and whose run has begun
pub record IsUp (v : EngineView) (site : SiteView) : Type 0 where
  pub has_file : IsWhole v site
  pub begun : v.history.records ≢ []

-- the filter of an agent, whose file holds its acts
pub record IsFilter (v : ActuatorView) (agent : ℕ) (site : SiteView) : Type 0 where
  pub ready : filter.IsReady v site
  pub whole : v.broken ≡ false
  pub of_agent : v.agent ≡ agent

-- the filters of agents 1, 2 and so on, in order: at most sixteen, or none
pub record FiltersReady (filters : List ActuatorView) (site : SiteView) : Type 0 where
  pub few : length filters ≤ 16
  pub each : (k : ℕ) (v : ActuatorView) → slice_get filters k ≡ Some v → IsFilter v (suc k) site

-- those of all agents, 1 to 16
pub record AreFilters (filters : List ActuatorView) (site : SiteView) : Type 0 where
  pub all : length filters ≡ 16
  pub each : (k : ℕ) (v : ActuatorView) → slice_get filters k ≡ Some v → IsFilter v (suc k) site

-- each issue that waits for a filter was put since the files were opened
abbrev pub AllPut : EngineView → Type 0
AllPut v = (issue : ℕ) (it : Issue) → IsWaiting v.history.seen issue it → puts_of v.puts issue ≢ None

-- how often an issue stands among those that were put
abbrev pub times : ℕ → List ℕ → ℕ
times issue [] = 0
times issue (other ∷ put) = (if nat_eq other issue then 1 else 0) + times issue put

-- the image stands for the records, or for these and one that may stand behind them
abbrev pub HoldsWithUnsure : List Record → Option Record → List ℕ → Type 0
HoldsWithUnsure records None image = HoldsRecords records image
HoldsWithUnsure records (Some next) image = HoldsRecords records image ⊎ HoldsRecords (records ++ next ∷ []) image
