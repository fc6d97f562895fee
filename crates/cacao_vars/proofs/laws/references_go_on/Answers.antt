use Rattle.cacao_vars.proofs.LawLemmas.{go_on}
use Rattle.cacao_vars.proofs.laws.references_go_on.Goals as goal

pub returns : goal.returns
returns c = go_on
