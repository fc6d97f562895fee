use Rattle.cacao_check.proofs.LawLemmas.{results_fit}
use Rattle.cacao_check.proofs.laws.results_fit.Goals as goal

pub returns : goal.returns
returns c = results_fit c.decimal_law.ensures.integers_read_back
