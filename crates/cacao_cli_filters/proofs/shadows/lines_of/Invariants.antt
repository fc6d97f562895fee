use Rattle.std.proofs.Common.{◌≡◌, map, take, string_bytes}
use Rattle.cacao_cli_filters.specs.Lines.{shadow_line}
use Rattle.cacao_cli_filters.proofs.shadows.lines_of.Given as goal

abbrev pub invariant-loop-shadow : goal.invariant-loop-shadow
invariant-loop-shadow l = map string_bytes l.lines.items ≡ map shadow_line (take l.shadow-index l.shadows)
