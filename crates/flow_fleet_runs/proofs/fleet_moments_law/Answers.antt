use Rattle.flow_fleet_runs.proofs.Acting.{fleets_acted}
use Rattle.flow_fleet_runs.proofs.InTime.{offered_in_time, records_in_time}
use Rattle.flow_fleet_runs.proofs.fleet_moments_law.Goals as goal

pub returns : goal.returns
returns c = record { in_time = records_in_time; offered = offered_in_time; acted = fleets_acted }
