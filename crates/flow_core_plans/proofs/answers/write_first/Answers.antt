use Rattle.flow_core_rules.specs.Changes.{written}
use Rattle.flow_core_values.specs.TableFacts.{lists_of}
use Rattle.flow_core_plans.proofs.AnswerLemmas.{adds_first}
use Rattle.flow_core_plans.proofs.answers.write_first.Goals as goal

pub returns-clause-edits : goal.returns-clause-edits
returns-clause-edits c =
    adds_first (written (lists_of c.args.run.now.tables) c.args.scope) _ _ c.args.names.now c.in-Some.name.now c.in-Some.others.now c.args.text c.in-Some.ensures.cases.0 c.in_ok-write.ensures
