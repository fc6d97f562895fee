use Rattle.flow_engine.proofs.ComingLemmas.{upgrade_comes}
use Rattle.flow_engine.proofs.engine.Engine.may_upgrade.Goals as goal

pub returns : goal.returns
returns c =
    upgrade_comes c.moves_are_in_range.ensures.records c.args.self.now.history c.args.moment c.stand.ensures c.requires.begun c.requires.goes_on c.requires.earlier c.requires.in_time
