use Rattle.flow_world_steps.proofs.Ending.{each_ends}
use Rattle.flow_world_steps.proofs.Spending.{step_spends, steps_spend}
use Rattle.flow_world_steps.proofs.going.spending_laws.Goals as goal

pub returns-clause-spends : goal.returns-clause-spends
returns-clause-spends c = step_spends c.accepted_is_runnable.ensures

pub returns-clause-adds_up : goal.returns-clause-adds_up
returns-clause-adds_up c = steps_spend c.accepted_is_runnable.ensures

pub returns-clause-ends : goal.returns-clause-ends
returns-clause-ends c = each_ends c.accepted_is_runnable.ensures
