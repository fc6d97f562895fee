use Rattle.flow_world.proofs.CloseLemmas.{closes_are_no_refusals, closes_are_one}
use Rattle.flow_world.proofs.laws.closes_law.Goals as goal

pub returns-clause-one : goal.returns-clause-one
returns-clause-one c = closes_are_one

pub returns-clause-no_refusal : goal.returns-clause-no_refusal
returns-clause-no_refusal c = closes_are_no_refusals
