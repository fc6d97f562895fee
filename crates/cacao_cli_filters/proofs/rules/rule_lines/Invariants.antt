use Rattle.std.proofs.Common.{◌≡◌, ◌++◌, map, string_bytes}
use Rattle.cacao_cli_filters.specs.Lines.{rule_line}
use Rattle.cacao_cli_filters.proofs.rules.rule_lines.Given as goal

abbrev pub invariant-loop-rule : goal.invariant-loop-rule
invariant-loop-rule l = map string_bytes l.lines.items ++ map rule_line l.rule-iterator ≡ map rule_line l.table
