-- Promise: What a flow keeps, and what contracts see of it.
use Rattle.std.specs.Prelude.{◌≡◌, ℕ, zero, suc, ◌+◌, ◌<◌, ◌≤◌, List, length, count_by, Option, Some, None, option_map, ⊤}
use Rattle.run_records.specs.declared.record.Record.{Record}
use Rattle.run_records.specs.Ranges.{last_moment}
use Rattle.flow_core_rules.specs.State.{State, Shown, shown}
use Rattle.flow_core_rules.specs.Edits.{Edit}
use Rattle.flow_core_rules.specs.Runs.{Leads}
use Rattle.flow_core_rules.specs.Laws.{HasPlacedWrites}
use Rattle.flow_core.specs.declared.flow.Flow.TheInside.{Inside}
use Rattle.flow_core.specs.declared.flow.Plan.{Plan}
use Rattle.flow_core_plans.specs.TableTypes.{Tables}
use Rattle.flow_core_plans.specs.Planned.{edits_of, AreDeclared}
use Rattle.flow_core_plans.specs.TableFacts.{lists_of, seen_with, HasTables, HasRoom}
use Rattle.flow_core_plans.specs.RunFacts.{shown_of}
use Rattle.flow_core.specs.Views.{View, blank_shown, is_makes}

abbrev pub plan_of : Plan → ℕ × List Edit
plan_of plan = (plan.moment, edits_of plan.edits.items)

abbrev pub view_of : Inside → View
view_of f = record { count = f.count; seen = shown_of f.run; plan = option_map plan_of f.plan }

-- the state of a run of so many records
pub record IsStateOf (count : ℕ) (seen : Shown) : Type 0 where
  pub records : List Record
  pub state : State
  pub leads : Leads seen.given seen.run records state
  pub shown_is : shown state ≡ seen
  pub many : length records ≡ count
  pub placed : HasPlacedWrites state

-- nothing is shown before the Begin, and then the state of a run
abbrev pub IsReached : ℕ → Shown → Type 0
IsReached zero seen = seen ≡ blank_shown seen.given seen.run
IsReached (suc n) seen = IsStateOf (suc n) seen

-- tasks and the moment are within their limits, and each record made one issue at most
pub record HasSizes (count : ℕ) (seen : Shown) : Type 0 where
  pub tasks : length seen.lists.tasks ≤ 1_000_000
  pub issues : length seen.lists.issues ≤ count
  pub in_time : seen.moment ≤ last_moment

-- what was planned has its room and its numbers
pub record IsHeld (plan : Plan) (count : ℕ) (tables : Tables) : Type 0 where
  pub room : HasRoom (length plan.edits.items) tables
  pub declared : AreDeclared plan.edits.items
  pub tasks : length tables.tasks.items + count_by is_makes (edits_of plan.edits.items) ≤ 1_000_000
  pub short : length plan.edits.items ≤ 1_000_000
  pub few : count < 100_000_000

abbrev pub PlanIsHeld : Option Plan → ℕ → Tables → Type 0
PlanIsHeld None count tables = ⊤
PlanIsHeld (Some plan) count tables = IsHeld plan count tables

pub record IsSound (f : Inside) : Type 0 where
  pub few : f.count ≤ 100_000_000
  pub reached : IsReached f.count (shown_of f.run)
  pub sizes : HasSizes f.count (shown_of f.run)
  pub tables : HasTables (seen_with f.run.setup (lists_of f.run.tables)) f.run.tables
  pub plan : PlanIsHeld f.plan f.count f.run.tables
