use Rattle.cacao_cli_peers.proofs.BeneathLemmas.{leaves-reach, reaches-beneath}
use Rattle.cacao_cli_peers.proofs.beneath.BeneathSite.reach.Goals as goal

pub returns : goal.returns
returns g c = reaches-beneath c.args.self.now.site.ghost_name (g.S.Disk.view c.args.self.now.lent.value) c.args.self.now.lost (g.S.Disk.view c.args.self.now.site.now) (g.S.Disk.view c.reach.new.self) c.args.moment c.reach.result c.reach.ensures

pub invariant_of-self : goal.invariant_of-self
invariant_of-self g c = record { leaves = leaves-reach (g.S.Disk.view c.args.self.now.lent.value) (g.S.Disk.view c.args.self.now.site.now) (g.S.Disk.view c.reach.new.self) c.args.moment c.reach.result c.args.self.now.leaves c.reach.ensures }
