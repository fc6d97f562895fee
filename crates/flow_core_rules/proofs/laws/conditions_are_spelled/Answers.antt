use Rattle.std.proofs.Common.{◌*◌, length}
use Rattle.cacao_cond.proofs.Sound.{condition_splits}
use Rattle.cacao_cond.proofs.Again.{condition_again}
use Rattle.flow_core_rules.proofs.laws.conditions_are_spelled.Goals as goal

pub returns : goal.returns
returns c = λ text tree. (condition_splits (3 * length text) text tree, condition_again tree text)
