use Rattle.flow_core_rules.proofs.KeepLemmas.{records_keep_issues}
use Rattle.flow_core_rules.proofs.laws.records_keep_issues.Goals as goal

pub returns : goal.returns
returns c = records_keep_issues
