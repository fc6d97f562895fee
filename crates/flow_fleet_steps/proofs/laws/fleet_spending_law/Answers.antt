use Rattle.flow_fleet_steps.proofs.Spending.{fleet_steps_in_time, fleet_steps_spend}
use Rattle.flow_fleet_steps.proofs.laws.fleet_spending_law.Goals as goal

pub returns : goal.returns
returns c = record { in_time = fleet_steps_in_time; spends = fleet_steps_spend c.accepted_is_runnable.ensures }
