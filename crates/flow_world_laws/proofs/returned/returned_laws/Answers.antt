use Rattle.flow_world_laws.proofs.Returning.{closes_on_run, reads_as_one_run}
use Rattle.flow_world_laws.proofs.returned.returned_laws.Goals as goal

pub returns-clause-closes_on_run : goal.returns-clause-closes_on_run
returns-clause-closes_on_run c = closes_on_run

pub returns-clause-one_run : goal.returns-clause-one_run
returns-clause-one_run c = reads_as_one_run
