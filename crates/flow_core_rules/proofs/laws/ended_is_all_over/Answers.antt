use Rattle.flow_core_rules.proofs.CanEndLemmas.{ended_is_all_over}
use Rattle.flow_core_rules.proofs.laws.ended_is_all_over.Goals as goal

pub returns : goal.returns
returns c = ended_is_all_over
