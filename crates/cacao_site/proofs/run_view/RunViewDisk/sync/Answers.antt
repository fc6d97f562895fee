use Rattle.cacao_site.specs.Seen.{call-at}
use Rattle.cacao_site.proofs.run_view.RunViewDisk.sync.Goals as goal

pub returns-then-is_own-clause-call : goal.returns-then-is_own-clause-call
returns-then-is_own-clause-call g c =
    call-at (g.R.Disk.view c.args.self.now.rack.now).disk (g.R.Disk.view c.run_sync.new.self).disk c.args.self.now.place c.args.self.now.rack.ghost_name c.args.file _ (c.is_own.ensures.own c.if-is_own.true) 0 c.run_sync.ensures.call

pub returns-clause-call : goal.returns-clause-call
returns-clause-call g c =
    call-at (g.R.Disk.view c.args.self.now.rack.now).disk (g.R.Disk.view c.sync.new.self).disk c.args.self.now.place c.args.self.now.rack.ghost_name c.args.file _ (c.is_own.ensures.other c.if-is_own.false) 0 c.sync.ensures.call
