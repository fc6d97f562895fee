use Rattle.std.proofs.Common.{◌≡◌}
use Rattle.slpf_rules.specs.declared.slots.Slot.{Slot}
use Rattle.slpf_rules.specs.Quick.{Reads}
use Rattle.slpf_rules.proofs.quick.Quick.wider.Given as goal

abbrev pub invariant-loop-at : goal.invariant-loop-at
invariant-loop-at l = ((slot : Slot) → Reads l.wider slot → Reads l.self slot) × (l.wider.since ≡ l.self.since)
