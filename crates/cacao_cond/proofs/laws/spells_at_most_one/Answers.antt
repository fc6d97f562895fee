use Rattle.cacao_cond.proofs.Again.{at_most_one}
use Rattle.cacao_cond.proofs.laws.spells_at_most_one.Goals as goal

pub returns : goal.returns
returns c = at_most_one
