-- Promise: A record changes after one of another task what it would have changed before, but for the numbers of what it opens.
use Rattle.std.specs.Prelude.{◌≡◌, ℕ, ◌+◌, ◌-◌, ◌≤◌, nat_le, List, length, map, option_map, if◌then◌else◌}
use Rattle.run_records.specs.declared.record.Record.{Record}
use Rattle.flow_core_rules.specs.declared.tasks.Task.{Task}
use Rattle.flow_core_rules.specs.declared.phases.Phase.{Phase}
use Rattle.flow_core_rules.specs.declared.phases.Phase.TheVariants as phase
use Rattle.flow_core_rules.specs.Givens.{Given}
use Rattle.flow_core_rules.specs.State.{State, shown}
use Rattle.flow_core_rules.specs.Edits.{Edit}
use Rattle.flow_core_rules.specs.Edits.Edit.{opens, writes, makes, moves}
use Rattle.flow_core_rules.specs.Changes.{change, moment_of}
use Rattle.flow_core_rules.specs.Runs.{Next, Leads}
use Rattle.flow_core_laws.specs.Reads.{reads, writes_of}
use Rattle.flow_core_laws.specs.BothOrders.{makes_issue, AtMostOne, AreOfTwoTasks, AreDisjoint, MayStillCome}

-- how many tasks and scopes there were, and by how many they have grown
pub record Grown : Type 0 where
  pub tasks : ℕ
  pub scopes : ℕ
  pub more_tasks : ℕ
  pub more_scopes : ℕ

abbrev pub grown : State → State → Grown
grown s new = record {
  tasks = length s.tasks;
  scopes = length s.scopes;
  more_tasks = length new.tasks - length s.tasks;
  more_scopes = length new.scopes - length s.scopes;
}

-- a number of what is opened next is higher by what was opened meanwhile
abbrev pub raised : ℕ → ℕ → ℕ → ℕ
raised count more n = if nat_le count n then n + more else n

abbrev pub raised_phase : Grown → Phase → Phase
raised_phase by (phase.Joining from) = phase.Joining (raised by.tasks by.more_tasks from)
raised_phase by other = other

-- the scopes of a task, and the tasks that it waits for; its parent is an earlier one
abbrev pub renumbered_task : Grown → Task → Task
renumbered_task by task =
    record task {
      scope = raised by.scopes by.more_scopes task.scope;
      step_scope = option_map (raised by.scopes by.more_scopes) task.step_scope;
      phase = raised_phase by task.phase;
    }

abbrev pub renumbered : Grown → Edit → Edit
renumbered by (opens parent vars) = opens (option_map (raised by.scopes by.more_scopes) parent) vars
renumbered by (writes at name text) = writes (raised by.scopes by.more_scopes at) name text
renumbered by (makes task) = makes (renumbered_task by task)
renumbered by (moves n task) = moves n (renumbered_task by task)
renumbered by other = other

-- In each state of a run: a record of another task that writes nothing that it reads leaves what a record changes the same, but for the
-- numbers of the scopes that it opens and of the tasks that it makes. At most one of the two sends or asks.
abbrev pub OthersChangeTheSameRenumbered : Type 0
OthersChangeTheSameRenumbered =
    (given : Given) (run : ℕ) (records : List Record) (s a b : State) (one other : Record) → Leads given run records s
    → (x : Next s one a) (y : Next s other b) → AreOfTwoTasks s one other
    → moment_of one ≤ moment_of other → AtMostOne makes_issue x.edits y.edits
    → AreDisjoint (writes_of (shown s) one) (reads (shown s) other) → MayStillCome a other
    → change (shown a) other ≡ option_map (map (renumbered (grown s a))) (change (shown s) other)

-- both orders go on, and in each the second record changes what it would have changed first, renumbered
pub record GoOnRenumbered (s a b : State) (one other : Record) (es fs : List Edit) : Type 0 where
  pub ab : State
  pub ba : State
  pub one_first : Next a other ab
  pub other_first : Next b one ba
  pub other_edits : one_first.edits ≡ map (renumbered (grown s a)) fs
  pub one_edits : other_first.edits ≡ map (renumbered (grown s b)) es

-- In a state of a run each of two records of different tasks may come next, at one moment; neither reads what the other writes, and at
-- most one sends or asks. Then both orders go on, and each record changes the same in both but for the numbers of what it opens.
abbrev pub BothOrdersGoOn : Type 0
BothOrdersGoOn =
    (given : Given) (run : ℕ) (records : List Record) (s a b : State) (one other : Record) → Leads given run records s
    → (x : Next s one a) (y : Next s other b) → AreOfTwoTasks s one other
    → moment_of one ≡ moment_of other → AtMostOne makes_issue x.edits y.edits
    → AreDisjoint (writes_of (shown s) one) (reads (shown s) other)
    → AreDisjoint (writes_of (shown s) other) (reads (shown s) one) → MayStillCome a other → MayStillCome b one
    → GoOnRenumbered s a b one other x.edits y.edits
