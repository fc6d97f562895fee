use Rattle.std.proofs.Common.{◌≡◌, ◌++◌, drop}
use Rattle.flow_core_rules.specs.Lines.{task_lines}
use Rattle.flow_core_plans.specs.RunFacts.{shown_of}
use Rattle.flow_core.proofs.report.add_tasks.Given as goal

-- what is written, and what is left to write
abbrev pub invariant-loop-number : goal.invariant-loop-number
invariant-loop-number l = l.out.items ++ task_lines (shown_of l.run) l.number (drop l.number l.tasks) ≡ l.fn.out.items ++ task_lines (shown_of l.run) 0 l.tasks
