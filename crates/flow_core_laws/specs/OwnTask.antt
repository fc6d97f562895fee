-- Promise: What a record changes: its own task. Every other task, and each scope, write and issue that it doesn't name, stays.
use Rattle.std.specs.Prelude.{◌≡◌, ◌⊎◌, ℕ, ◌<◌, ◌≤◌, true, false, List, [], ◌∷◌, ◌++◌, length, Option, Some, None, IsSomeAnd, option_and_then, option_map, slice_get, ⊤}
use Rattle.std.specs.List.{AllByRecursion}
use Rattle.run_records.specs.declared.record.Record.{Record}
use Rattle.run_records.specs.declared.record.Record.TheVariants as entry
use Rattle.cacao_vars.specs.declared.scoping.Scope.{Scope}
use Rattle.cacao_vars.specs.declared.scoping.Write.{Write}
use Rattle.cacao_vars.specs.Scopes.{home}
use Rattle.flow_core_rules.specs.declared.tasks.Task.{Task}
use Rattle.flow_core_rules.specs.declared.issues.Issue.{Issue}
use Rattle.flow_core_rules.specs.declared.phases.Phase.TheVariants as phase
use Rattle.flow_core_rules.specs.State.{State, Shown, shown}
use Rattle.flow_core_rules.specs.Changes.{has_ended, moment_of}
use Rattle.flow_core_rules.specs.Runs.{Next}
use Rattle.flow_core_rules.specs.Laws.{KeepsIssues, issued_by}

-- ---- the task of a record

-- the task of an issue
abbrev pub owner_of : Shown → ℕ → Option ℕ
owner_of s n = option_map (λ (issue : Issue). issue.task) (slice_get s.lists.issues n)

-- The task that walks, sends or asks, or whose issue ends. A Begin and an Upgrade have none.
abbrev pub task_of : Shown → Record → Option ℕ
task_of s (entry.Begin run moment books bind) = None
task_of s (entry.Walk task moment) = Some task
task_of s (entry.Send task issue agent moment bytes) = Some task
task_of s (entry.Reply issue moment status rule text) = owner_of s issue
task_of s (entry.Expire issue moment) = owner_of s issue
task_of s (entry.Upgrade version moment) = None
task_of s (entry.Ask task issue moment bytes) = Some task
task_of s (entry.Told issue moment status text) = owner_of s issue

-- ---- tasks

-- the task stands in the same place of the run: below the same task, in the same playbook and the same scope
abbrev pub KeepsPlace : Task → Task → Type 0
KeepsPlace was now = (now.parent ≡ was.parent) × (now.book ≡ was.book) × (now.scope ≡ was.scope)

-- the record's own task: it is there, goes on, and keeps its place
pub record Goes (s new : State) (t : ℕ) : Type 0 where
  pub was : Task
  pub now : Task
  pub was_is : slice_get s.tasks t ≡ Some was
  pub now_is : slice_get new.tasks t ≡ Some now
  pub goes_on : has_ended was.phase ≡ false
  pub keeps : KeepsPlace was now

-- a task that is made: a child of this one, before its step from this moment on
pub record IsNewChild (parent now : ℕ) (task : Task) : Type 0 where
  pub parent_is : task.parent ≡ Some parent
  pub phase_is : task.phase ≡ phase.At now
  pub no_step_scope : task.step_scope ≡ None
  pub not_excepted : task.excepted ≡ false

-- only a Walk makes tasks
abbrev pub MayMake : Record → Task → Type 0
MayMake (entry.Walk t moment) task = IsNewChild t moment task
MayMake other task = ⊥

-- Above, below or beside the record's own task, each other one stays as it was, in all its fields.
pub record KeepsTasks (s new : State) (r : Record) (own : Option ℕ) : Type 0 where
  pub others : (t : ℕ) (task : Task) → slice_get s.tasks t ≡ Some task → ¬ (own ≡ Some t) → slice_get new.tasks t ≡ Some task
  pub its_own : (t : ℕ) → own ≡ Some t → Goes s new t
  pub made : (t : ℕ) (task : Task) → length s.tasks ≤ t → slice_get new.tasks t ≡ Some task → MayMake r task

-- ---- scopes and writes

-- none, or that of the task's step inside the task's scope, or behind it that of a called playbook with none around it
abbrev pub AreOfStep : Task → List Scope → Type 0
AreOfStep task [] = ⊤
AreOfStep task (step ∷ []) = step.parent ≡ Some task.scope
AreOfStep task (step ∷ called ∷ []) = (step.parent ≡ Some task.scope) × (called.parent ≡ None)
AreOfStep task other = ⊥

-- only a Walk opens scopes
abbrev pub MayOpen : State → Record → List Scope → Type 0
MayOpen s (entry.Walk t moment) opened = IsSomeAnd (slice_get s.tasks t) (λ task. AreOfStep task opened)
MayOpen s other opened = opened ≡ []

-- the home of a name, seen from the scope of a task's step
abbrev pub home_for : State → Option ℕ → List ℕ → Option ℕ
home_for s own name =
    option_and_then (λ scope. home s.scopes scope name)
    (option_and_then (λ (task : Task). task.step_scope) (option_and_then (slice_get s.tasks) own))

-- At most there: a scope that was opened with the record, or the home of the name for the record's own task. (A Walk that opens
-- scopes writes in that of a called playbook alone, `called` in `flow_core_rules`.)
abbrev pub IsInPlace : State → State → Option ℕ → Write → Type 0
IsInPlace s new own write =
    ((length s.scopes ≤ write.scope) × (write.scope < length new.scopes)) ⊎ (home_for s own write.name ≡ Some write.scope)

-- all scopes and writes stay, and further ones stand behind them
pub record KeepsTexts (s new : State) (r : Record) (own : Option ℕ) : Type 0 where
  pub opened : List Scope
  pub written : List Write
  pub scopes_are : new.scopes ≡ s.scopes ++ opened
  pub writes_are : new.writes ≡ s.writes ++ written
  pub may_open : MayOpen s r opened
  pub in_place : AllByRecursion (IsInPlace s new own) written

-- ---- issues, and the rest

-- of issues only the one that the record ends changes, in its phase; what it sends or asks is its own task's
pub record KeepsOtherIssues (s new : State) (r : Record) (own : Option ℕ) : Type 0 where
  pub kept : KeepsIssues s new r
  pub added : (n : ℕ) (issue : Issue) → length s.issues ≤ n → slice_get new.issues n ≡ Some issue
      → (issued_by r ≡ Some n) × (own ≡ Some issue.task)
  pub none_added : issued_by r ≡ None → length new.issues ≡ length s.issues

-- only an Upgrade upgrades, and changes nothing else
abbrev pub UpgradesAlone : State → State → Record → Type 0
UpgradesAlone s new (entry.Upgrade version moment) = new ≡ record s { moment = moment; is_upgraded = true }
UpgradesAlone s new other = new.is_upgraded ≡ s.is_upgraded

-- ---- the law

pub record ChangesOwnTask (s new : State) (r : Record) (own : Option ℕ) : Type 0 where
  pub tasks : KeepsTasks s new r own
  pub texts : KeepsTexts s new r own
  pub issues : KeepsOtherIssues s new r own
  pub upgrade : UpgradesAlone s new r
  pub moment : new.moment ≡ moment_of r
  pub run : new.run ≡ s.run
  pub given : new.given ≡ s.given

abbrev pub RecordsChangeOwnTask : Type 0
RecordsChangeOwnTask = (s new : State) (r : Record) → Next s r new → ChangesOwnTask s new r (task_of (shown s) r)
