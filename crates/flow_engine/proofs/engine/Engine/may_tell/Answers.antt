use Rattle.flow_engine.proofs.ComingLemmas.{told_comes}
use Rattle.flow_engine.proofs.engine.Engine.may_tell.Goals as goal

pub returns : goal.returns
returns c =
    told_comes c.moves_are_in_range.ensures.records c.args.self.now.history c.args.issue c.args.moment c.args.status c.args.text.now c.stand.ensures c.requires
