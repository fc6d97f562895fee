use Rattle.flow_fleet_sums.proofs.Whole.{fleets_add_up}
use Rattle.flow_fleet_sums.proofs.fleet_sums_law.Goals as goal

pub returns : goal.returns
returns c = record { sums = fleets_add_up }
