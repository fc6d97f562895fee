use Rattle.cacao_site.specs.Seen.{takes-seen}
use Rattle.cacao_site.proofs.run_view.RunViewSite.take.Goals as goal

pub returns-clause-only : goal.returns-clause-only
returns-clause-only g c = takes-seen _ _ c.take.ensures.only
