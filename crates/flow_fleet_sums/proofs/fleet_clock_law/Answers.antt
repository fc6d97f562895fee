use Rattle.flow_fleet_sums.proofs.Asked.{fleets_ask}
use Rattle.flow_fleet_sums.proofs.fleet_clock_law.Goals as goal

pub returns : goal.returns
returns c = record { asks = fleets_ask }
