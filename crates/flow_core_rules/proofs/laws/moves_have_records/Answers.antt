use Rattle.flow_core_rules.proofs.MoveLemmas.{moves_are_enabled, no_move_is_no_record}
use Rattle.flow_core_rules.proofs.WaitingLemmas.{no_record_is_no_move}
use Rattle.flow_core_rules.proofs.laws.moves_have_records.Goals as goal

pub returns-clause-some : goal.returns-clause-some
returns-clause-some c = moves_are_enabled

pub returns-clause-none : goal.returns-clause-none
returns-clause-none c = no_move_is_no_record

pub returns-clause-only : goal.returns-clause-only
returns-clause-only c = no_record_is_no_move
