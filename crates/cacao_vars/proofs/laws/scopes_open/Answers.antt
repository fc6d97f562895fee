use Rattle.cacao_vars.proofs.OpenLemmas.{scopes_open}
use Rattle.cacao_vars.proofs.laws.scopes_open.Goals as goal

pub returns : goal.returns
returns c = scopes_open
