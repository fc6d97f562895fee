use Rattle.flow_core.proofs.TakenLemmas.{refuses_record}
use Rattle.flow_core.proofs.flow.Flow.take.Goals as goal

pub returns-in-Err-clause-refused : goal.returns-in-Err-clause-refused
returns-in-Err-clause-refused c = refuses_record c.args.self.now c.args.item.now c.in-Err.error c.requires.in_range c.in-Err.ensures.answers
