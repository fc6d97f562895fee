use Rattle.flow_world.proofs.Steady.{closes_steady, refusals_steady}
use Rattle.flow_world.proofs.laws.steady_law.Goals as goal

pub returns-clause-closes : goal.returns-clause-closes
returns-clause-closes c = closes_steady

pub returns-clause-refusals : goal.returns-clause-refusals
returns-clause-refusals c = refusals_steady
