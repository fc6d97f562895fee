use Rattle.flow_core_rules.proofs.RunLemmas.{runs_go_on}
use Rattle.flow_core_rules.proofs.laws.runs_go_on.Goals as goal

pub returns-clause-more : goal.returns-clause-more
returns-clause-more c = runs_go_on
