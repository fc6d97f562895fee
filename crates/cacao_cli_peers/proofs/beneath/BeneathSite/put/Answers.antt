use Rattle.std.proofs.Common.{arith}
use Rattle.cacao_cli_peers.proofs.BeneathLemmas.{puts-beneath}
use Rattle.cacao_cli_peers.proofs.beneath.BeneathSite.put.Goals as goal

pub returns : goal.returns
returns g c = puts-beneath c.args.self.now.site.ghost_name (g.S.Disk.view c.args.self.now.lent.value) (g.S.Disk.view c.args.self.now.site.now) c.args.self.now.lost c.saturating_add-self.result c.args._parcel c.saturating_add-self.ensures (omega arith)
