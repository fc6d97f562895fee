use Rattle.std.proofs.Common.{subst, sym}
use Rattle.flow_engine.specs.EngineCalls.{IsComing}
use Rattle.flow_engine.proofs.ComingLemmas.{reply_comes}
use Rattle.flow_engine.proofs.engine.Engine.reply_record.Goals as goal

pub returns-clause-comes : goal.returns-clause-comes
returns-clause-comes c =
    let to = c.requires.to in
    let back = to.sent_back in
    subst (IsComing c.args.self.now.history) (sym c.in_ok-next.ensures)
    (reply_comes c.runs_are_sane.ensures c.waiting_can_end.ensures c.moves_are_in_range.ensures.records c.args.self.now.history c.args.parcel.now.issue c.args.moment back.it c.args.read
    c.stand.ensures back.waiting c.requires.in_time to.read_is.final c.requires.in_range)
