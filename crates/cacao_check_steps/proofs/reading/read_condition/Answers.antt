use Rattle.std.proofs.Common.{◌∙◌, ap, Err}
use Rattle.cacao_cond.specs.Trees.{tree_of}
use Rattle.cacao_cond.specs.Grammar.{Spells}
use Rattle.cacao_check_steps.specs.Uses.{condition_of}
use Rattle.cacao_check_steps.proofs.ReadLemmas.{spelled_in, unspelled_in}
use Rattle.cacao_check_steps.proofs.reading.read_condition.Goals as goal

pub returns-in-Ok-clause-found : goal.returns-in-Ok-clause-found
returns-in-Ok-clause-found c =
    spelled_in Spells (condition_of c.args.kind.now) c.in-Some.text.now c.as_bytes.result.now (tree_of c.in-Ok.cond) c.in-Some.ensures.text (c.as_bytes.ensures.value ∙ c.text.ensures) c.in-Ok.ensures.spelled

pub returns-in-Err-Grammar-clause-none : goal.returns-in-Err-Grammar-clause-none
returns-in-Err-Grammar-clause-none c =
    unspelled_in Spells (condition_of c.args.kind.now) c.in-Some.text.now c.as_bytes.result.now c.in-Some.ensures.text (c.as_bytes.ensures.value ∙ c.text.ensures) (c.in-Err-Grammar.ensures.grammar (ap Err c.in-Err-Grammar.field-0-is))
