use Rattle.flow_core_rules.proofs.CanEndLemmas.{waiting_can_end}
use Rattle.flow_core_rules.proofs.laws.waiting_can_end.Goals as goal

pub returns : goal.returns
returns c = waiting_can_end
