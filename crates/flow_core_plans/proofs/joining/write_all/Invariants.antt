use Rattle.std.proofs.Common.{take}
use Rattle.std.specs.List.{flat_map}
use Rattle.flow_core_rules.specs.Changes.{written, valued}
use Rattle.flow_core_plans.specs.Adding.{Adds}
use Rattle.flow_core_values.specs.TableFacts.{lists_of}
use Rattle.flow_core_plans.proofs.joining.write_all.Given as goal

abbrev pub invariant-loop-name : goal.invariant-loop-name
invariant-loop-name l = Adds l.fn.edits.items l.edits.items (flat_map (written (lists_of l.run.tables) l.scope) (valued (lists_of l.run.tables) l.from (take l.name-index l.names)))
