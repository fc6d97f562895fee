use Rattle.flow_engine.proofs.ComingLemmas.{may_move}
use Rattle.flow_engine.proofs.engine.Engine.may_move.Goals as goal

pub returns : goal.returns
returns c = may_move c.moves_have_records.ensures.some c.args.self.now.history c.args.moment c.args.found c.stand.ensures c.requires c.moves_are_in_range.ensures.records
