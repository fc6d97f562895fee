use Rattle.std.proofs.Common.{take}
use Rattle.std.specs.List.{flat_map}
use Rattle.flow_core_rules.specs.Changes.{binding, valued}
use Rattle.flow_core_plans.specs.Adding.{Adds}
use Rattle.flow_core_values.specs.Sights.{lists_seen, scope_seen}
use Rattle.flow_core_plans.proofs.entering.bind_all.Given as goal

abbrev pub invariant-loop-name : goal.invariant-loop-name
invariant-loop-name l = Adds l.fn.edits.items l.edits.items (flat_map (binding l.scope) (valued (lists_seen l.run l.sight) (scope_seen l.run l.sight) (take l.name-index l.names)))
