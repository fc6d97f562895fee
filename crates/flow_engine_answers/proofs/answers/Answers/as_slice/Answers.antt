use Rattle.std.proofs.Common.{All, subst}
use Rattle.flow_engine_answers.specs.Answers.{IsOperatorAnswer}
use Rattle.flow_engine_answers.proofs.answers.Answers.as_slice.Goals as goal

pub returns-clause-good : goal.returns-clause-good
returns-clause-good c = subst (All IsOperatorAnswer) c.self.view_is c.self.invariant
