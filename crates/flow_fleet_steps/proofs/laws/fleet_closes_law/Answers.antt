use Rattle.flow_fleet_steps.proofs.Closes.{closes_are_no_refusals, closes_are_one}
use Rattle.flow_fleet_steps.proofs.laws.fleet_closes_law.Goals as goal

pub returns : goal.returns
returns c = record { one = closes_are_one; no_refusal = closes_are_no_refusals }
