use Rattle.cacao_vars.proofs.LawLemmas.{set_there, not_there}
use Rattle.cacao_vars.proofs.laws.writes_one_value.Goals as goal

pub returns : goal.returns
returns c = λ scopes writes at name worth scope other. (set_there scopes writes at name worth scope other, not_there scopes writes at name worth scope other)
