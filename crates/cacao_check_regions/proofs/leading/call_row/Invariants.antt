use Rattle.std.proofs.Common.{◌≡◌, take, filter_map}
use Rattle.cacao_check_steps.specs.declared.parts.Parts.{Parts}
use Rattle.cacao_check_regions.proofs.leading.call_row.Given as goal

abbrev pub invariant-loop-part : goal.invariant-loop-part
invariant-loop-part l = l.row ≡ filter_map (λ (part : Parts). part.called) (take l.part-index l.parts)
