use Rattle.std.proofs.lemmas.Result.{err_from_is_err_and}
use Rattle.flow_engine.specs.EngineCalls.{IsReply}
use Rattle.flow_engine.proofs.CallLemmas.{done_as, err_through}
use Rattle.flow_engine.proofs.engine.Engine.reply.Goals as goal

pub returns-in_err-append-clause-refused : goal.returns-in_err-append-clause-refused
returns-in_err-append-clause-refused g c =
    let passed = c.from_residual-in_err-append in
    err_through (IsReply c.args.self.now.history c.args.parcel.now c.args.moment) c.in_ok-next.next c.in_ok-next.ensures.is (g.S.Disk.view c.args.site.now) (g.S.Disk.view c.append.new.disk)
    c.args.self.now c.append.new.self passed.result c.in_err-append.field-0.0 (err_from_is_err_and passed.result passed.ensures.1) c.in_err-append.ensures.refused

pub returns-clause-replied : goal.returns-clause-replied
returns-clause-replied g c = λ _.
    done_as (IsReply c.args.self.now.history c.args.parcel.now c.args.moment) c.in_ok-next.next c.in_ok-next.ensures.is (g.S.Disk.view c.args.site.now) (g.S.Disk.view c.append.new.disk)
    c.args.self.now c.append.new.self c.in_ok-append.ensures.ok
