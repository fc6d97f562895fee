-- Promise: Two records of different tasks may come in either order: both orders show the same.
use Rattle.std.specs.Prelude.{◌≡◌, ◌≢◌, ◌&&◌, ℕ, ◌≤◌, Bool, true, false, List, ⊤, Contains}
use Rattle.std.specs.List.{list_any}
use Rattle.run_records.specs.declared.record.Record.{Record}
use Rattle.run_records.specs.declared.record.Record.TheVariants as entry
use Rattle.flow_core_rules.specs.Givens.{Given}
use Rattle.flow_core_rules.specs.State.{State, shown}
use Rattle.flow_core_rules.specs.Edits.{Edit}
use Rattle.flow_core_rules.specs.Edits.Edit.{opens, makes, issues}
use Rattle.flow_core_rules.specs.Changes.{change, moment_of}
use Rattle.flow_core_rules.specs.Runs.{Next, Leads, IsEnded}
use Rattle.flow_core_laws.specs.OwnTask.{task_of}
use Rattle.flow_core_laws.specs.Reads.{reads, writes_of}

-- ---- what edits open

abbrev pub opens_scope : Edit → Bool
opens_scope (opens parent vars) = true
opens_scope other = false

abbrev pub makes_task : Edit → Bool
makes_task (makes task) = true
makes_task other = false

abbrev pub makes_issue : Edit → Bool
makes_issue (issues issue) = true
makes_issue other = false

-- of two lists of edits at most one has such an edit
abbrev pub AtMostOne : (Edit → Bool) → List Edit → List Edit → Type 0
AtMostOne test es fs = (list_any test es && list_any test fs) ≡ false

-- at most one opens scopes, one makes tasks and one makes issues
pub record OpenApart (es fs : List Edit) : Type 0 where
  pub scopes : AtMostOne opens_scope es fs
  pub tasks : AtMostOne makes_task es fs
  pub issues : AtMostOne makes_issue es fs

-- ---- the laws

-- the records are of different tasks, or the one is an Upgrade and the other none
abbrev pub AreOfTwoTasks : State → Record → Record → Type 0
AreOfTwoTasks s one other = task_of (shown s) one ≢ task_of (shown s) other

-- no name of the one list, in its scope, is in the other
abbrev pub AreDisjoint : List (ℕ × List ℕ) → List (ℕ × List ℕ) → Type 0
AreDisjoint xs ys = (at : ℕ) (name : List ℕ) → Contains xs (at, name) → ¬ Contains ys (at, name)

-- an Upgrade comes while a run goes on
abbrev pub MayStillCome : State → Record → Type 0
MayStillCome s (entry.Upgrade version moment) = ¬ IsEnded s
MayStillCome s other = ⊤

-- the record changes the very same in another state
abbrev pub ChangesTheSame : State → State → Record → Type 0
ChangesTheSame s new r = change (shown new) r ≡ change (shown s) r

-- In each state of a run, what a record changes rests on its own task and on what it reads: a record of another task that writes none
-- of that leaves it the very same.
abbrev pub OthersChangeTheSame : Type 0
OthersChangeTheSame =
    (given : Given) (run : ℕ) (records : List Record) (s a b : State) (one other : Record) → Leads given run records s
    → (x : Next s one a) (y : Next s other b) → AreOfTwoTasks s one other
    → moment_of one ≤ moment_of other → OpenApart x.edits y.edits
    → AreDisjoint (writes_of (shown s) one) (reads (shown s) other) → MayStillCome a other → ChangesTheSame s a other

-- neither reads or writes what the other writes
pub record AreApart (s : State) (one other : Record) : Type 0 where
  pub other_reads : AreDisjoint (writes_of (shown s) one) (reads (shown s) other)
  pub one_reads : AreDisjoint (writes_of (shown s) other) (reads (shown s) one)
  pub both_write : AreDisjoint (writes_of (shown s) one) (writes_of (shown s) other)

-- both orders go on, and show the same
pub record ShowTheSame (a b : State) (one other : Record) : Type 0 where
  pub ab : State
  pub ba : State
  pub one_first : Next a other ab
  pub other_first : Next b one ba
  pub same : shown ab ≡ shown ba

-- In a state of a run each of two records of different tasks may come next, at one moment; neither reads or writes what the other
-- writes, and they open apart. Then both orders go on and show the same, but where an Upgrade comes too late.
abbrev pub BothOrdersShowTheSame : Type 0
BothOrdersShowTheSame =
    (given : Given) (run : ℕ) (records : List Record) (s a b : State) (one other : Record) → Leads given run records s
    → (x : Next s one a) (y : Next s other b) → AreOfTwoTasks s one other
    → moment_of one ≡ moment_of other → OpenApart x.edits y.edits → AreApart s one other → MayStillCome a other
    → MayStillCome b one → ShowTheSame a b one other
