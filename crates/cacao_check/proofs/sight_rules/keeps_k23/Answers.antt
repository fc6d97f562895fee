use Rattle.std.proofs.Common.{sym, ◌∙◌}
use Rattle.std.proofs.lemmas.Bool.{false≢true}
use Rattle.cacao_check.proofs.RuleLemmas.{k23_no, k23_more, k23_yes}
use Rattle.cacao_check.proofs.sight_rules.keeps_k23.Goals as goal

pub returns-then-sees-clause-keeps : goal.returns-then-sees-clause-keeps
returns-then-sees-clause-keeps c =
    k23_no c.args.book.now c.args.place c.args.step.now c.out_args_of-outs.result.now c.is_action-action.result c.out_args_of-outs.ensures.names c.is_action-action.ensures
    c.loop-at.at c.index-outs-at.result c.result_flaw-flaw.result c.loop-at-test.true c.index-outs-at.is c.result_flaw-flaw.ensures (c.in_ok-sees.ensures.sees.0 c.if-sees.true)

pub loop-at-preserved : goal.loop-at-preserved
loop-at-preserved c = (
  k23_more c.args.book.now c.args.place c.args.step.now c.out_args_of-outs.result.now c.is_action-action.result c.out_args_of-outs.ensures.names c.is_action-action.ensures
      c.loop-at.at c.index-outs-at.result c.result_flaw-flaw.result c.loop-at-test.true c.index-outs-at.is c.result_flaw-flaw.ensures (λ found. false≢true (sym c.if-sees.false ∙ c.in_ok-sees.ensures.sees.1 found)) c.loop-at.invariant.0,
  c.in_ok-sees.ensures.memory,
)

pub returns-clause-keeps : goal.returns-clause-keeps
returns-clause-keeps c =
    k23_yes c.args.book.now c.args.place c.args.step.now c.out_args_of-outs.result.now c.is_action-action.result c.out_args_of-outs.ensures.names c.is_action-action.ensures c.loop-at.at c.loop-at-test.false c.loop-at.invariant.0
