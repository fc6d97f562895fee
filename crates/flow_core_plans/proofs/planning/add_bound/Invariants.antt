use Rattle.std.proofs.Common.{◌≡◌, ◌++◌, map, take}
use Rattle.flow_core_rules.specs.Edits.{writes}
use Rattle.flow_core_values.specs.Planned.{edits_of, AreDeclared}
use Rattle.flow_core_plans.proofs.planning.add_bound.Given as goal

abbrev pub invariant-loop-one : goal.invariant-loop-one
invariant-loop-one l = record {
  edits : edits_of l.edits.items ≡ edits_of l.fn.edits.items ++ map (λ one. writes 0 one.0 one.1) (take l.one-index l.bound);
  declared : AreDeclared l.fn.edits.items → AreDeclared l.edits.items;
}
