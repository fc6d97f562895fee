use Rattle.flow_engine.specs.EngineCalls.{IsBeginning}
use Rattle.flow_engine.proofs.CallLemmas.{err_as, ok_as}
use Rattle.flow_engine.proofs.engine.Engine.start.Goals as goal

pub returns-clause-ok : goal.returns-clause-ok
returns-clause-ok g c =
    ok_as (IsBeginning c.args.self.now.history c.args.moment) c.in_ok-next.next c.in_ok-next.ensures.is (g.S.Disk.view c.args.site.now) (g.S.Disk.view c.append.new.disk)
    c.args.self.now c.append.new.self c.append.result c.append.ensures.ok

pub returns-clause-refused : goal.returns-clause-refused
returns-clause-refused g c =
    err_as (IsBeginning c.args.self.now.history c.args.moment) c.in_ok-next.next c.in_ok-next.ensures.is (g.S.Disk.view c.args.site.now) (g.S.Disk.view c.append.new.disk)
    c.args.self.now c.append.new.self c.append.result c.append.ensures.refused
