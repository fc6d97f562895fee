use Rattle.cacao_cli_peers.proofs.BeneathLemmas.{calls-beneath, leaves-call, rest-beneath}
use Rattle.cacao_cli_peers.proofs.beneath.BeneathDisk.read.Goals as goal

pub returns-clause-call : goal.returns-clause-call
returns-clause-call g c = calls-beneath c.args.self.now.site.ghost_name (g.S.Disk.view c.args.self.now.lent.value) c.args.self.now.lost (g.S.Disk.view c.args.self.now.site.now) (g.S.Disk.view c.read.new.self) c.args.file 0 c.read.ensures.call

pub returns-clause-rest : goal.returns-clause-rest
returns-clause-rest g c = rest-beneath c.args.self.now.site.ghost_name (g.S.Disk.view c.args.self.now.lent.value) c.args.self.now.lost (g.S.Disk.view c.args.self.now.site.now) (g.S.Disk.view c.read.new.self) c.read.ensures.rest

pub invariant_of-self : goal.invariant_of-self
invariant_of-self g c = record { leaves = leaves-call (g.S.Disk.view c.args.self.now.lent.value) (g.S.Disk.view c.args.self.now.site.now) (g.S.Disk.view c.read.new.self) c.args.self.now.leaves c.read.ensures.rest }
