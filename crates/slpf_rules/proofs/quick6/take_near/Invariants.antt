use Rattle.slpf_rules.specs.Quick6.{Adds6}
use Rattle.slpf_rules.proofs.quick6.take_near.Given as goal

abbrev pub invariant-loop-at : goal.invariant-loop-at
invariant-loop-at l = Adds6 l.fn.slots.items l.slots.items l.slot
