use Rattle.std.proofs.Common.{◌≡◌, ◌++◌, drop}
use Rattle.flow_core_rules.specs.Lines.{issue_lines}
use Rattle.flow_core.proofs.report.add_issues.Given as goal

-- what is written, and what is left to write
abbrev pub invariant-loop-number : goal.invariant-loop-number
invariant-loop-number l = l.out.items ++ issue_lines l.number (drop l.number l.issues) ≡ l.fn.out.items ++ issue_lines 0 l.issues
