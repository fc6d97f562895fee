use Rattle.flow_fleet_runs.proofs.Counting.{fleet_closes_count, fleet_refusals_count, fleets_count}
use Rattle.flow_fleet_runs.proofs.fleet_floods_law.Goals as goal

pub returns : goal.returns
returns c = record { counts = fleets_count; closes = fleet_closes_count; refuses = fleet_refusals_count }
