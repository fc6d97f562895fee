use Rattle.cacao_site.specs.Seen.{says-seen}
use Rattle.cacao_site.proofs.run_view.RunViewSite.say.Goals as goal

pub returns-clause-only : goal.returns-clause-only
returns-clause-only g c = says-seen _ _ c.say.ensures.only
