use Rattle.flow_core_rules.proofs.OneRunLemmas.{begins_are_in_range}
use Rattle.flow_core_rules.proofs.RangeLemmas.{moves_are_in_range, enabled_are_in_range}
use Rattle.flow_core_rules.proofs.laws.moves_are_in_range.Goals as goal

pub returns-clause-moves : goal.returns-clause-moves
returns-clause-moves c = moves_are_in_range

pub returns-clause-records : goal.returns-clause-records
returns-clause-records c = enabled_are_in_range

pub returns-clause-begin : goal.returns-clause-begin
returns-clause-begin c = begins_are_in_range
