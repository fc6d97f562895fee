use Rattle.flow_core_rules.proofs.IssueLemmas.{issues_are_new, issues_have_records}
use Rattle.flow_core_rules.proofs.laws.issues_have_records.Goals as goal

pub returns-clause-new : goal.returns-clause-new
returns-clause-new c = issues_are_new

pub returns-clause-records : goal.returns-clause-records
returns-clause-records c = issues_have_records
