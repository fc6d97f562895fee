use Rattle.oc2_wire.proofs.Retell.{takes_none_at_all}
use Rattle.cacao_cli_peers.specs.SitesBeneath.{beneath}
use Rattle.cacao_cli_peers.proofs.beneath.BeneathSite.take.Goals as goal

pub returns-clause-only : goal.returns-clause-only
returns-clause-only g c = takes_none_at_all (beneath c.args.self.now.site.ghost_name (g.S.Disk.view c.args.self.now.lent.value) c.args.self.now.lost (g.S.Disk.view c.args.self.now.site.now))
