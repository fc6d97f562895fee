use Rattle.slpf_rules.specs.Quick.{Adds}
use Rattle.slpf_rules.proofs.quick.take_near.Given as goal

abbrev pub invariant-loop-at : goal.invariant-loop-at
invariant-loop-at l = Adds l.fn.slots.items l.slots.items l.slot
