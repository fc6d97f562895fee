use Rattle.flow_core_rules.proofs.RunLemmas.{enabled_has_next, run_one}
use Rattle.flow_core_rules.proofs.OneRunLemmas.{runs_are_one}
use Rattle.flow_core_rules.proofs.laws.one_next_state.Goals as goal

pub returns-clause-enabled : goal.returns-clause-enabled
returns-clause-enabled c = enabled_has_next

pub returns-clause-run : goal.returns-clause-run
returns-clause-run c = run_one

pub returns-clause-runs : goal.returns-clause-runs
returns-clause-runs c = runs_are_one
