use Rattle.std.proofs.Common.{IsUtf8, sym, subst, ◌∙◌, arith}
use Rattle.flow_core_plans.proofs.AnswerLemmas.{not_text, is_one}
use Rattle.flow_core_plans.proofs.answers.answer_text.Goals as goal

pub returns-in-Ok : goal.returns-in-Ok
returns-in-Ok c = (
  c.in-Ok.ensures.cases.0 ∙ c.as_slice.ensures,
  is_one c.args.status c.args.text.now (sym c.if-not-is_final.ensures) (omega arith) (subst IsUtf8 c.as_slice.ensures c.in-Ok.ensures.cases.1),
)

pub returns-in-Err : goal.returns-in-Err
returns-in-Err c = not_text c.args.status c.args.text.now (λ u. c.in-Err.ensures.cases.0 (subst IsUtf8 (sym c.as_slice.ensures) u))
