use Rattle.flow_core_rules.proofs.EarlierLemmas.{earlier_runs_are_runs}
use Rattle.flow_core_rules.proofs.laws.earlier_runs_are_runs.Goals as goal

pub returns : goal.returns
returns c = earlier_runs_are_runs
