use Rattle.flow_fleet_returns.proofs.Prefixes.{each_fleet_close_goes_on, each_fleet_refusal_goes_on, each_refused_fleet_opening_adds_nothing}
use Rattle.flow_fleet_returns.proofs.fleet_prefix_law.Goals as goal

pub returns : goal.returns
returns c = record {
  closes = each_fleet_close_goes_on;
  refuses = each_fleet_refusal_goes_on;
  refuses_opening = each_refused_fleet_opening_adds_nothing;
}
