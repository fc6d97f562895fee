use Rattle.cacao_site.specs.Seen.{puts-seen}
use Rattle.cacao_site.proofs.run_view.RunViewSite.put.Goals as goal

pub returns : goal.returns
returns g c = puts-seen _ _ c.args.parcel c.put.ensures
