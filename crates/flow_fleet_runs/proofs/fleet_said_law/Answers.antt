use Rattle.flow_fleet_runs.proofs.Saying.{fleet_closes_say, fleet_refusals_say}
use Rattle.flow_fleet_runs.proofs.fleet_said_law.Goals as goal

pub returns : goal.returns
returns c = record { closes = fleet_closes_say; refuses = fleet_refusals_say }
