use Rattle.flow_fleet_runs.proofs.Held.{went_files}
use Rattle.flow_fleet_runs.proofs.fleet_files_law.Goals as goal

pub returns : goal.returns
returns c = record { stands = went_files }
