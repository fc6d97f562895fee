use Rattle.cacao_cli_peers.proofs.BeneathLemmas.{leaves-line, says-beneath}
use Rattle.cacao_cli_peers.proofs.beneath.BeneathSite.say.Goals as goal

pub returns-clause-only : goal.returns-clause-only
returns-clause-only g c = says-beneath c.args.self.now.site.ghost_name (g.S.Disk.view c.args.self.now.lent.value) c.args.self.now.lost (g.S.Disk.view c.args.self.now.site.now) (g.S.Disk.view c.say.new.self) c.say.ensures.only

pub invariant_of-self : goal.invariant_of-self
invariant_of-self g c = record { leaves = leaves-line (g.S.Disk.view c.args.self.now.lent.value) (g.S.Disk.view c.args.self.now.site.now) (g.S.Disk.view c.say.new.self) c.args.self.now.leaves c.say.ensures.only }
