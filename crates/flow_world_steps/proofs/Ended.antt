-- Each step is one of a session that goes on.
use Rattle.std.proofs.Common.{◌≡◌, sym, subst}
use Rattle.flow_world_steps.specs.Causes.{EachEnded}
use Rattle.flow_world_steps.specs.Steps.{Step}
use Rattle.flow_world_steps.specs.Steps.Step.{opens_clock, finds_run_used, asks_clock, finds_late, begins, moves, upgrades, tells, expires, says, fails_to_say}
use Rattle.flow_world_steps.specs.Steps.Step.{puts_first, resends, takes, finds_none, fails_to_take, drops, replies, ignores_reply, acts_on, repeats_reply, fails_to_act, wants_memory_now}
use Rattle.flow_world_steps.specs.Steps.Steps.{nothing, and_then}
use Rattle.flow_world_steps.specs.Worlds.{IsGoing, Phase, World}

pub going_as : (p q : Phase) → p ≡ q → IsGoing q → IsGoing p
going_as p q e g = subst IsGoing (sym e) g

pub step_going : (old new : World) → Step old new → IsGoing old.phase
step_going old new (opens_clock answer is) = going_as old.phase _ is.phase tt
step_going old new (finds_run_used agent is) = going_as old.phase _ is.phase tt
step_going old new (asks_clock moment answer is) = going_as old.phase _ is.next.up_to_date.on_time.untold.idle.has_looked.phase tt
step_going old new (finds_late moment is) = going_as old.phase _ is.next.up_to_date.on_time.untold.idle.has_looked.phase tt
step_going old new (begins is) = going_as old.phase _ is.phase tt
step_going old new (moves is) = going_as old.phase _ is.has_looked.phase tt
step_going old new (upgrades issue told is) = going_as old.phase _ is.to_be_told.idle.has_looked.phase tt
step_going old new (tells issue told is) = going_as old.phase _ is.to_be_told.idle.has_looked.phase tt
step_going old new (expires issue is) = going_as old.phase _ is.overdue.untold.idle.has_looked.phase tt
step_going old new (says bytes is) = going_as old.phase _ is.speaks.phase tt
step_going old new (fails_to_say bytes is) = going_as old.phase _ is.speaks.phase tt
step_going old new (puts_first issue is) = going_as old.phase _ is.phase tt
step_going old new (resends issue is) = going_as old.phase _ is.due.on_time.untold.idle.has_looked.phase tt
step_going old new (takes parcel is) = going_as old.phase _ is.turn.phase tt
step_going old new (finds_none is) = going_as old.phase _ is.turn.phase tt
step_going old new (fails_to_take is) = going_as old.phase _ is.turn.phase tt
step_going old new (drops beat parcel is) = going_as old.phase _ is.phase tt
step_going old new (replies beat parcel is) = going_as old.phase _ is.holds_reply.phase tt
step_going old new (ignores_reply beat parcel is) = going_as old.phase _ is.holds_reply.phase tt
step_going old new (acts_on beat parcel v w is) = going_as old.phase _ is.holds_command.phase tt
step_going old new (repeats_reply beat parcel v w is) = going_as old.phase _ is.holds_command.phase tt
step_going old new (fails_to_act beat parcel v w error cause is) = going_as old.phase _ is.holds_command.phase tt
step_going old new (wants_memory_now is) = is.going

pub steps_end : EachEnded
steps_end a b going nothing over = absurd (over going)
steps_end a b going (and_then {mid} steps step) over = record { old = mid; before = steps; going = step_going mid b step; step = step }
