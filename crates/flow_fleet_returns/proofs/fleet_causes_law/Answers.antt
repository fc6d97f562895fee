use Rattle.flow_fleet_returns.proofs.Causes.{closes_tell, refusals_tell}
use Rattle.flow_fleet_returns.proofs.fleet_causes_law.Goals as goal

pub returns : goal.returns
returns c = record { refusals = refusals_tell; closes = closes_tell }
