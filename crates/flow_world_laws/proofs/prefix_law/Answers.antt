use Rattle.flow_world_laws.proofs.Prefixes.{each_close_goes_on, each_later_refusal_goes_on, each_refusal_goes_on, each_refused_opening_adds_nothing, each_second_refusal_goes_on}
use Rattle.flow_world_laws.proofs.prefix_law.Goals as goal

pub returns : goal.returns
returns c = record {
  closes = each_close_goes_on;
  refuses = each_refusal_goes_on;
  refuses_later = each_later_refusal_goes_on;
  refuses_second = each_second_refusal_goes_on;
  refuses_opening = each_refused_opening_adds_nothing;
}
