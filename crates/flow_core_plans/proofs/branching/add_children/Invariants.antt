use Rattle.std.proofs.Common.{take}
use Rattle.flow_core_plans.specs.Adding.{Adds}
use Rattle.flow_core_plans.specs.Entered.{branches}
use Rattle.flow_core_values.specs.RunFacts.{shown_of, here_of}
use Rattle.flow_core_plans.proofs.branching.add_children.Given as goal

abbrev pub invariant-loop-key : goal.invariant-loop-key
invariant-loop-key l = Adds l.fn.edits.items l.edits.items (branches (here_of (shown_of l.run) l.stand) l.scope (take l.key-index l.keys))
