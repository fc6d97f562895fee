use Rattle.flow_world_laws.proofs.Acted.{reply_has_its_act}
use Rattle.flow_world_laws.proofs.Answering.{send_is_acted_on, send_is_answered}
use Rattle.flow_world_laws.proofs.Telling.{no_told, no_told_of_filters}
use Rattle.flow_world_laws.proofs.answered.answered_laws.Goals as goal

pub returns-clause-no_told : goal.returns-clause-no_told
returns-clause-no_told c = no_told

pub returns-clause-no_told_of_filters : goal.returns-clause-no_told_of_filters
returns-clause-no_told_of_filters c = no_told_of_filters

pub returns-clause-sends_answered : goal.returns-clause-sends_answered
returns-clause-sends_answered c = send_is_answered

pub returns-clause-replies_acted : goal.returns-clause-replies_acted
returns-clause-replies_acted c = reply_has_its_act

pub returns-clause-sends_acted : goal.returns-clause-sends_acted
returns-clause-sends_acted c = send_is_acted_on
