use Rattle.flow_world_steps.proofs.PutWhile.{steps_all_put}
use Rattle.flow_world_steps.proofs.Standing.{steps_stand, steps_up}
use Rattle.flow_world_steps.proofs.Timely.{steps_in_time}
use Rattle.flow_world_steps.proofs.going.going_laws.Goals as goal

pub returns-clause-stands : goal.returns-clause-stands
returns-clause-stands c = steps_stand

pub returns-clause-up : goal.returns-clause-up
returns-clause-up c = steps_up

pub returns-clause-all_put : goal.returns-clause-all_put
returns-clause-all_put c = steps_all_put

pub returns-clause-in_time : goal.returns-clause-in_time
returns-clause-in_time c = steps_in_time
