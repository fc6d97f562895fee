use Rattle.std.proofs.Common.{◌≡◌, take}
use Rattle.flow_core_rules.specs.Edits.{declared_texts}
use Rattle.flow_core_tables.proofs.present.Present.declared.Given as goal

abbrev pub invariant-loop-var : goal.invariant-loop-var
invariant-loop-var l = l.map.entries ≡ declared_texts (take l.var-index l.items)
