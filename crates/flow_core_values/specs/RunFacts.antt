-- Scaffold: What a run shows as it stands, and what holds of it.
use Rattle.std.specs.Prelude.{ℕ, ◌≤◌, length, List, Option, Some, None}
use Rattle.run_records.specs.Ranges.{last_moment}
use Rattle.cacao_vars.specs.declared.declarations.Var.{Var}
use Rattle.flow_core_rules.specs.State.{Lists, Shown}
use Rattle.flow_core_rules.specs.Edits.{opens, shown_edited}
use Rattle.flow_core_rules.specs.Tasks.{Here}
use Rattle.flow_core_rules.specs.Sane.{IsSane}
use Rattle.flow_core_rules.specs.Runnable.{IsRunnable}
use Rattle.flow_core_values.specs.declared.run.Run.{Run}
use Rattle.flow_core_values.specs.declared.run.Stand.{Stand}
use Rattle.flow_core_tables.specs.TableFacts.{lists_of, seen_with, HasTables, IsSmall}

abbrev pub shown_of : Run → Shown
shown_of r = record { moment = r.moment; run = r.number; given = r.setup; lists = lists_of r.tables }

-- where a task stands
abbrev pub here_of : Shown → Stand → Here
here_of s stand = record { seen = s; now = stand.now; number = stand.number; task = stand.task; step = stand.step.now }

-- What a run keeps once it has begun.
pub record IsWell (r : Run) : Type 0 where
  pub small : IsSmall (lists_of r.tables)
  pub in_time : r.moment ≤ last_moment
  pub runnable : IsRunnable r.setup
  pub sane : IsSane (shown_of r)
  pub tables : HasTables (seen_with r.setup (lists_of r.tables)) r.tables

-- ---- values as they are seen from a scope, perhaps from one with these declarations that is opened inside it

abbrev pub lists_in : Lists → Option (List Var) → ℕ → Lists
lists_in s None scope = s
lists_in s (Some vars) scope = shown_edited (opens (Some scope) vars) s

abbrev pub scope_in : Lists → Option (List Var) → ℕ → ℕ
scope_in s None scope = scope
scope_in s (Some vars) scope = length s.scopes
