use Rattle.flow_world_steps.proofs.Adding.{steps_add, steps_same_given}
use Rattle.flow_world_steps.proofs.Agreement.{steps_keep_agreement}
use Rattle.flow_world_steps.proofs.Asked.{steps_ask, steps_ignore_few}
use Rattle.flow_world_steps.proofs.Beside.{drops_unaddressed}
use Rattle.flow_world_steps.proofs.Came.{steps_acted, steps_came}
use Rattle.flow_world_steps.proofs.Caused.{steps_cause}
use Rattle.flow_world_steps.proofs.Complete.{steps_complete}
use Rattle.flow_world_steps.proofs.Costs.{steps_cost}
use Rattle.flow_world_steps.proofs.Counted.{steps_count_few}
use Rattle.flow_world_steps.proofs.Ended.{steps_end}
use Rattle.flow_world_steps.proofs.Filters.{steps_ready_filters}
use Rattle.flow_world_steps.proofs.Grown.{steps_grow_filters}
use Rattle.flow_world_steps.proofs.Handling.{steps_handle}
use Rattle.flow_world_steps.proofs.Looked.{steps_look}
use Rattle.flow_world_steps.proofs.Lost.{steps_put_or_lose}
use Rattle.flow_world_steps.proofs.Put.{steps_put_few, steps_reply_few}
use Rattle.flow_world_steps.proofs.Readiness.{steps_ready}
use Rattle.flow_world_steps.proofs.Replied.{each_reply_acted}
use Rattle.flow_world_steps.proofs.Resent.{steps_put_in_time}
use Rattle.flow_world_steps.proofs.Spoken.{steps_speak}
use Rattle.flow_world_steps.proofs.Steady.{steps_steady}
use Rattle.flow_world_steps.proofs.Unbroken.{steps_unbroken}
use Rattle.flow_world_steps.proofs.Unsure.{steps_unsure, steps_unsure_act}
use Rattle.flow_world_steps.proofs.Waiting.{no_expiry, steps_wait}
use Rattle.flow_world_steps.proofs.Whole.{steps_add_up}
use Rattle.flow_world_steps.proofs.Written.{steps_write_few}
use Rattle.flow_world_steps.proofs.steps_laws.Goals as goal

pub returns-clause-agreement : goal.returns-clause-agreement
returns-clause-agreement c = steps_keep_agreement

pub returns-clause-adds : goal.returns-clause-adds
returns-clause-adds c = steps_add

pub returns-clause-given : goal.returns-clause-given
returns-clause-given c = steps_same_given

pub returns-clause-came : goal.returns-clause-came
returns-clause-came c = steps_came

pub returns-clause-asks : goal.returns-clause-asks
returns-clause-asks c = steps_ask

pub returns-clause-ignored : goal.returns-clause-ignored
returns-clause-ignored c = steps_ignore_few

pub returns-clause-speaks : goal.returns-clause-speaks
returns-clause-speaks c = steps_speak

pub returns-clause-costs : goal.returns-clause-costs
returns-clause-costs c = steps_cost

pub returns-clause-ready : goal.returns-clause-ready
returns-clause-ready c = steps_ready

pub returns-clause-filters : goal.returns-clause-filters
returns-clause-filters c = steps_ready_filters

pub returns-clause-found : goal.returns-clause-found
returns-clause-found c = steps_look

pub returns-clause-puts_few : goal.returns-clause-puts_few
returns-clause-puts_few c = steps_put_few

pub returns-clause-replies_few : goal.returns-clause-replies_few
returns-clause-replies_few c = steps_reply_few

pub returns-clause-counts : goal.returns-clause-counts
returns-clause-counts c = steps_count_few

pub returns-clause-handles : goal.returns-clause-handles
returns-clause-handles c = steps_handle

pub returns-clause-drops : goal.returns-clause-drops
returns-clause-drops c = drops_unaddressed

pub returns-clause-puts_or_lost : goal.returns-clause-puts_or_lost
returns-clause-puts_or_lost c = steps_put_or_lose

pub returns-clause-puts_in_time : goal.returns-clause-puts_in_time
returns-clause-puts_in_time c = steps_put_in_time

pub returns-clause-under_way : goal.returns-clause-under_way
returns-clause-under_way c = steps_wait

pub returns-clause-no_expiry : goal.returns-clause-no_expiry
returns-clause-no_expiry c = no_expiry

pub returns-clause-causes : goal.returns-clause-causes
returns-clause-causes c = steps_cause

pub returns-clause-steady : goal.returns-clause-steady
returns-clause-steady c = steps_steady

pub returns-clause-acted : goal.returns-clause-acted
returns-clause-acted c = steps_acted

pub returns-clause-written : goal.returns-clause-written
returns-clause-written c = steps_write_few

pub returns-clause-ended : goal.returns-clause-ended
returns-clause-ended c = steps_end

pub returns-clause-unsure : goal.returns-clause-unsure
returns-clause-unsure c = steps_unsure

pub returns-clause-unsure_act : goal.returns-clause-unsure_act
returns-clause-unsure_act c = steps_unsure_act

pub returns-clause-grow : goal.returns-clause-grow
returns-clause-grow c = steps_grow_filters

pub returns-clause-unbroken : goal.returns-clause-unbroken
returns-clause-unbroken c = steps_unbroken

pub returns-clause-complete : goal.returns-clause-complete
returns-clause-complete c = steps_complete

pub returns-clause-replies_acted : goal.returns-clause-replies_acted
returns-clause-replies_acted c = each_reply_acted

pub returns-clause-adds_up : goal.returns-clause-adds_up
returns-clause-adds_up c = steps_add_up
