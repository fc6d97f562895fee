use Rattle.flow_core_rules.proofs.SaneRuns.{runs_are_sane}
use Rattle.flow_core_rules.proofs.laws.runs_are_sane.Goals as goal

pub returns : goal.returns
returns c = runs_are_sane
