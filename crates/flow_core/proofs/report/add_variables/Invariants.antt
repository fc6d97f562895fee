use Rattle.std.proofs.Common.{◌≡◌, ◌++◌}
use Rattle.flow_core_rules.specs.Lines.{variable_lines}
use Rattle.flow_core.proofs.report.add_variables.Given as goal

-- what is written, and what is left to write
abbrev pub invariant-loop-name : goal.invariant-loop-name
invariant-loop-name l = l.out.items ++ variable_lines l.name-iterator ≡ l.fn.out.items ++ variable_lines l.texts.entries
