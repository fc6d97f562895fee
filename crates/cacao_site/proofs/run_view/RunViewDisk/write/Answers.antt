use Rattle.std.specs.Prelude.{length}
use Rattle.cacao_site.specs.Seen.{call-at}
use Rattle.cacao_site.proofs.run_view.RunViewDisk.write.Goals as goal

pub returns-then-is_own-clause-call : goal.returns-then-is_own-clause-call
returns-then-is_own-clause-call g c =
    call-at (g.R.Disk.view c.args.self.now.rack.now).disk (g.R.Disk.view c.run_write.new.self).disk c.args.self.now.place c.args.self.now.rack.ghost_name c.args.file _ (c.is_own.ensures.own c.if-is_own.true) (length c.args.bytes.now) c.run_write.ensures.call

pub returns-clause-call : goal.returns-clause-call
returns-clause-call g c =
    call-at (g.R.Disk.view c.args.self.now.rack.now).disk (g.R.Disk.view c.write.new.self).disk c.args.self.now.place c.args.self.now.rack.ghost_name c.args.file _ (c.is_own.ensures.other c.if-is_own.false) (length c.args.bytes.now) c.write.ensures.call
