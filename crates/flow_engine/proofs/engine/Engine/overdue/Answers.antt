use Rattle.flow_engine.proofs.OverdueLemmas.{overdue_due, overdue_put}
use Rattle.flow_engine.proofs.engine.Engine.overdue.Goals as goal

pub returns-clause-put : goal.returns-clause-put
returns-clause-put c = overdue_put c.args.self.now c.args.moment c.first_by.result c.first_by.ensures

pub returns-clause-due : goal.returns-clause-due
returns-clause-due c = overdue_due c.args.self.now c.args.moment c.first_by.result c.first_by.ensures
