use Rattle.cacao_view_preflight.proofs.SeenLemmas.{constants_are_seen}
use Rattle.cacao_view_preflight.proofs.SureLemmas.{answers_are_sure}
use Rattle.cacao_view_preflight.proofs.laws.sure_answers_law.Goals as goal

pub returns : goal.returns
returns c = record {
  sure = answers_are_sure c.canonical_law.ensures.trees c.canonical_law.ensures.reads_back c.profile_law.ensures.put c.profile_law.ensures.removal c.profile_law.ensures.members c.references_go_on.ensures;
  seen = constants_are_seen;
}
