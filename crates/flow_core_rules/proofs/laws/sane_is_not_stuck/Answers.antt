use Rattle.flow_core_rules.proofs.NotStuck.{not_stuck}
use Rattle.flow_core_rules.proofs.laws.sane_is_not_stuck.Goals as goal

pub returns : goal.returns
returns c = not_stuck
