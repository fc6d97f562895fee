use Rattle.flow_engine.proofs.ComingLemmas.{answer_comes}
use Rattle.flow_engine.proofs.engine.Engine.can_tell.Goals as goal

pub returns : goal.returns
returns c =
    let waits = c.requires.waits in
    answer_comes c.runs_are_sane.ensures c.waiting_can_end.ensures c.args.self.now.history c.args.issue c.args.moment waits.0 c.args.told.now c.stand.ensures
    waits.1 waits.2 c.requires.upgraded c.requires.in_time c.requires.good
