use Rattle.flow_fleet_runs.proofs.Came.{fleets_begin, fleets_came, fleets_looked}
use Rattle.flow_fleet_runs.proofs.fleet_came_law.Goals as goal

pub returns : goal.returns
returns c = record { came = fleets_came; looked = fleets_looked; begins = fleets_begin }
