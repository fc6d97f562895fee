use Rattle.std.proofs.Common.{◌≡◌, ◌-◌, length, drop, flat_map}
use Rattle.cacao_text.specs.Canon.{escaped}
use Rattle.flow_core_values.proofs.sizing.take_quoted.Given as goal

abbrev pub invariant-loop-byte : goal.invariant-loop-byte
invariant-loop-byte l = l.left - length (flat_map escaped (drop l.byte-index l.text)) ≡ l.initial.left - length (flat_map escaped l.text)
