use Rattle.flow_fleet_runs.proofs.Ends.{fleets_close_by_kind, fleets_close_exactly}
use Rattle.flow_fleet_runs.proofs.fleet_exact_ends_law.Goals as goal

pub returns : goal.returns
returns c = record { exact = fleets_close_exactly; kinds = fleets_close_by_kind }
