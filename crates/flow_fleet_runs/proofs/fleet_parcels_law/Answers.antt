use Rattle.flow_fleet_runs.proofs.Handled.{fleet_steps_handle}
use Rattle.flow_fleet_runs.proofs.Parcels.{each_fleet_close_handles, each_fleet_refusal_handles}
use Rattle.flow_fleet_runs.proofs.fleet_parcels_law.Goals as goal

pub returns : goal.returns
returns c = record { handles = fleet_steps_handle; closes = each_fleet_close_handles; refuses = each_fleet_refusal_handles }
