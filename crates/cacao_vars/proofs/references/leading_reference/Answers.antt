use Rattle.cacao_vars.proofs.FirstLemmas.{exact_front}
use Rattle.cacao_vars.proofs.references.leading_reference.Goals as goal

pub returns-clause-exact : goal.returns-clause-exact
returns-clause-exact c = exact_front c.args.text.now c.name_len.result c.name_len.ensures
