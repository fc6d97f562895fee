-- Scaffold: What is seen of scopes from one of them, or from one that is opened inside it.
use Rattle.std.specs.Prelude.{ℕ}
use Rattle.std.specs.Option.{option_copied}
use Rattle.flow_core_rules.specs.State.{Lists}
use Rattle.flow_core_values.specs.declared.run.Run.{Run}
use Rattle.flow_core_values.specs.declared.run.Sight.{Sight}
use Rattle.flow_core_tables.specs.TableFacts.{lists_of}
use Rattle.flow_core_values.specs.RunFacts.{lists_in, scope_in}

-- the lists of a run as they are once the scope is open, and the number of the scope
abbrev pub lists_seen : Run → Sight → Lists
lists_seen r sight = lists_in (lists_of r.tables) (option_copied sight.opening) sight.scope

abbrev pub scope_seen : Run → Sight → ℕ
scope_seen r sight = scope_in (lists_of r.tables) (option_copied sight.opening) sight.scope
