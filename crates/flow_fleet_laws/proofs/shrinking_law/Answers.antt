use Rattle.flow_fleet_laws.proofs.Shrinking.{file_shrinks, filters_shrink, kept_shrinks, shrinks_on}
use Rattle.flow_fleet_laws.proofs.shrinking_law.Goals as goal

pub returns : goal.returns
returns c = record { file = file_shrinks; filters = filters_shrink; kept = kept_shrinks; in_a_row = shrinks_on }
