use Rattle.flow_core_values.proofs.HereLemmas.{stands_there}
use Rattle.flow_core_values.proofs.run.Run.stand.Goals as goal

pub returns-clause-there : goal.returns-clause-there
returns-clause-there c = stands_there c.args.self.now c.args.now c.args.t c.here.result c.requires.sane c.here.ensures
