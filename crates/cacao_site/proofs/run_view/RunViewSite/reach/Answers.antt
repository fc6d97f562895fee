use Rattle.cacao_site.specs.Seen.{reaches-seen}
use Rattle.cacao_site.proofs.run_view.RunViewSite.reach.Goals as goal

pub returns : goal.returns
returns g c = reaches-seen _ _ c.args.moment c.reach.result c.reach.ensures
