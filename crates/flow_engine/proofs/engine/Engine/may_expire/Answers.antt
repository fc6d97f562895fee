use Rattle.flow_engine.proofs.ComingLemmas.{expire_comes}
use Rattle.flow_engine.proofs.engine.Engine.may_expire.Goals as goal

pub returns : goal.returns
returns c =
    expire_comes c.runs_are_sane.ensures c.waiting_can_end.ensures c.moves_are_in_range.ensures.records c.args.self.now.history c.args.self.now.puts c.args.issue c.args.moment
    c.stand.ensures c.law.ensures.put c.requires.put c.requires.due c.requires.in_time
