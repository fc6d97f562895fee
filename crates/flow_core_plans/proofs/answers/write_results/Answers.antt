use Rattle.std.proofs.Common.{ap, Some}
use Rattle.flow_core_rules.specs.Changes.{written}
use Rattle.flow_core_values.specs.TableFacts.{lists_of}
use Rattle.flow_core_plans.proofs.AnswerLemmas.{adds_results}
use Rattle.flow_core_plans.proofs.answers.write_results.Goals as goal

pub returns : goal.returns
returns c =
    adds_results (written (lists_of c.args.run.now.tables) c.args.awaited.scope) _ _ _ _ _ _ _ _ _ _ _ _ _ _
    c.out_args-names.ensures c.in_ok-others.ensures.others c.in_ok-last.ensures.others
    (ap (λ w. Some w) c.in_ok-status.ensures) c.in_ok-rule.ensures (ap (λ w. Some w) c.in_ok-text.ensures)
    c.in_ok-others.ensures.edits c.in_ok-last.ensures.edits c.in_ok-_rest.ensures.edits
