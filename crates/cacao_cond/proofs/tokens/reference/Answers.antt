-- A name is a text.
use Rattle.cacao_cond.proofs.ReadLemmas.{name_is_text}
use Rattle.cacao_cond.proofs.tokens.reference.Goals as goal

pub returns-in-Err-clause-exact : goal.returns-in-Err-clause-exact
returns-in-Err-clause-exact c = absurd (c.in-Err.ensures.cases.0 (name_is_text _ c.in-Some.ensures.cases.name_fits))
