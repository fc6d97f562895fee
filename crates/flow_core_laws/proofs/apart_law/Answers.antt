use Rattle.flow_core_laws.proofs.OwnTask.{records_change_own_task}
use Rattle.flow_core_laws.proofs.SameBytes.{asks_the_same, sends_the_same}
use Rattle.flow_core_laws.proofs.StaysEnabled.{records_stay_enabled}
use Rattle.flow_core_laws.proofs.apart_law.Goals as goal

pub returns : goal.returns
returns c = record { own_task = records_change_own_task; stays_enabled = records_stay_enabled; same_send = sends_the_same; same_ask = asks_the_same }
