use Rattle.flow_world_laws.proofs.Undisturbed.{completes}
use Rattle.flow_world_laws.proofs.NoOther.{none_finds_another}
use Rattle.flow_world_laws.proofs.Undamaged.{good_is_undamaged, none_finds_damage}
use Rattle.flow_world_laws.proofs.complete.complete_laws.Goals as goal

pub returns-clause-undamaged : goal.returns-clause-undamaged
returns-clause-undamaged c = good_is_undamaged c.accepted_again.ensures

pub returns-clause-no_damage : goal.returns-clause-no_damage
returns-clause-no_damage c = none_finds_damage c.accepted_again.ensures

pub returns-clause-no_other_run : goal.returns-clause-no_other_run
returns-clause-no_other_run c = none_finds_another

pub returns-clause-completes : goal.returns-clause-completes
returns-clause-completes c = completes c.accepted_again.ensures
