use Rattle.flow_fleet_runs.proofs.Reaching.{fleet_closes_reach, fleet_refusals_reach}
use Rattle.flow_fleet_runs.proofs.fleet_reach_law.Goals as goal

pub returns : goal.returns
returns c = record { closes = fleet_closes_reach; refuses = fleet_refusals_reach }
