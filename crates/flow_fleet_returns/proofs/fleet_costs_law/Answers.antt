use Rattle.flow_fleet_returns.proofs.Costs.{each_fleet_close_uses_few, each_fleet_refusal_uses_few}
use Rattle.flow_fleet_returns.proofs.fleet_costs_law.Goals as goal

pub returns : goal.returns
returns c = record { closes = each_fleet_close_uses_few; refuses = each_fleet_refusal_uses_few }
