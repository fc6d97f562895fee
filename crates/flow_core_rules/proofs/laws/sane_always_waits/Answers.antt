use Rattle.flow_core_rules.proofs.WaitingLemmas.{always_waits}
use Rattle.flow_core_rules.proofs.laws.sane_always_waits.Goals as goal

pub returns : goal.returns
returns c = always_waits
