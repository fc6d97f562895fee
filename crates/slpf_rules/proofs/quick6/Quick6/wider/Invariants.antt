use Rattle.std.proofs.Common.{◌≡◌}
use Rattle.slpf_rules.specs.declared.slots6.Slot6.{Slot6}
use Rattle.slpf_rules.specs.Quick6.{Reads6}
use Rattle.slpf_rules.proofs.quick6.Quick6.wider.Given as goal

abbrev pub invariant-loop-at : goal.invariant-loop-at
invariant-loop-at l = ((slot : Slot6) → Reads6 l.wider slot → Reads6 l.self slot) × (l.wider.since ≡ l.self.since)
