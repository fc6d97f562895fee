use Rattle.flow_engine_history.proofs.RefusalLaws.{no_run_where_refused, one_refusal}
use Rattle.flow_engine_history.proofs.laws.opening_law.Goals as goal

pub returns : goal.returns
returns c = record { no_run = no_run_where_refused; one_refusal = one_refusal }
