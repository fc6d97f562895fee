use Rattle.std.proofs.Common.{◌≡◌, map, take, string_bytes}
use Rattle.cacao_cli_filters.specs.Lines.{decision_lines}
use Rattle.cacao_cli_filters.proofs.decisions.decision_lines.Given as goal

abbrev pub invariant-loop-moment : goal.invariant-loop-moment
invariant-loop-moment l = map string_bytes l.lines.items ≡ decision_lines (take l.moment-index l.packets) l.table
