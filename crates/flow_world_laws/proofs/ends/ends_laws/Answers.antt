use Rattle.flow_world_laws.proofs.Carried.{steps_keep_disk_on}
use Rattle.flow_world_laws.proofs.Closing.{steps_count_shorts, steps_end_in_turn}
use Rattle.flow_world_laws.proofs.Shown.{steps_in_turn, steps_lack_only, steps_passed}
use Rattle.flow_world_laws.proofs.ends.ends_laws.Goals as goal

pub returns-clause-in_turn : goal.returns-clause-in_turn
returns-clause-in_turn c = steps_in_turn

pub returns-clause-closes : goal.returns-clause-closes
returns-clause-closes c = steps_end_in_turn

pub returns-clause-lacks : goal.returns-clause-lacks
returns-clause-lacks c = steps_lack_only

pub returns-clause-shorts : goal.returns-clause-shorts
returns-clause-shorts c = steps_count_shorts

pub returns-clause-disk : goal.returns-clause-disk
returns-clause-disk c = steps_keep_disk_on

pub returns-clause-passed : goal.returns-clause-passed
returns-clause-passed c = steps_passed
