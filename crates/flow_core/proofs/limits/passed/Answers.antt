use Rattle.std.proofs.Common.{true, false, arith, sym}
use Rattle.flow_core.proofs.HeldLemmas.{passes}
use Rattle.flow_core.proofs.limits.passed.Goals as goal

pub returns-then-has_long_command : goal.returns-then-has_long_command
returns-then-has_long_command c = λ s len.
    sym (passes s c.args.plan.now c.args.tasks c.tasks_made.result true len c.tasks_made.ensures.tasks (omega (arith, c.if-tasks_made-tasks.false, c.requires)) c.if-has_long_command.ensures)

pub returns-else-has_long_command : goal.returns-else-has_long_command
returns-else-has_long_command c = λ s len.
    sym (passes s c.args.plan.now c.args.tasks c.tasks_made.result false len c.tasks_made.ensures.tasks (omega (arith, c.if-tasks_made-tasks.false, c.requires)) c.if-has_long_command.ensures)
