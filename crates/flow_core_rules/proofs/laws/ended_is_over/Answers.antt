use Rattle.flow_core_rules.proofs.EndLemmas.{ended_is_over}
use Rattle.flow_core_rules.proofs.laws.ended_is_over.Goals as goal

pub returns : goal.returns
returns c = ended_is_over
