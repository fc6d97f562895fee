-- A session that finds the number of its run used finds so at once.
use Rattle.std.proofs.Common.{◌≡◌, ℕ, Bool, true, false, sym, ◌∙◌, subst}
use Rattle.std.specs.Prelude.{nat_lt, if◌then◌else◌, ⊤}
use Rattle.cacao_site.specs.declared.parcel.Parcel.{Parcel}
use Rattle.run_records.specs.Ranges.{last_moment}
use Rattle.run_records.specs.declared.record.Record.{Record}
use Rattle.flow_core.specs.declared.flow_errors.LimitKind.TheVariants as limit
use Rattle.slpf_actuator.specs.ActuatorView.{ActuatorView}
use Rattle.slpf_actuator.specs.declared.error.ActError.{ActError}
use Rattle.slpf_actuator.specs.declared.error.ActError.TheVariants as act_error
use Rattle.flow_world_steps.specs.Appends.{Tries}
use Rattle.flow_world_steps.specs.Appends.Tries.{done, failed, limited}
use Rattle.flow_world_steps.specs.Steps.{FailsToAct, FindsRunUsed, GoesTowards, Step, Steps, after_reach}
use Rattle.flow_world_steps.specs.Steps.Step.{opens_clock, finds_run_used, asks_clock, finds_late, begins, moves, upgrades, tells, expires, says, fails_to_say}
use Rattle.flow_world_steps.specs.Steps.Step.{puts_first, resends, takes, finds_none, fails_to_take, drops, replies, ignores_reply, acts_on, repeats_reply, fails_to_act, wants_memory_now}
use Rattle.flow_world_steps.specs.Steps.Steps.{nothing, and_then}
use Rattle.flow_world_steps.specs.Worlds.{Cause, Phase, World, opened, rests, looked, owes, holds, waits, refused, disk_failed, not_said, run_used, past, wants_memory}
use Rattle.flow_world_steps.proofs.Asked.{step_not_opened}

-- what the last step shows, by the phase to which it led
abbrev UsedShows : Phase → World → World → Type 0
UsedShows (refused (run_used agent) lacks) old new = FindsRunUsed agent old new
UsedShows other old new = ⊤

shows_as : (p q : Phase) (old new : World) → p ≡ q → UsedShows q old new → UsedShows p old new
shows_as p q old new e is = subst (λ (x : Phase). UsedShows x old new) (sym e) is

clock_shows : (old new : World) (moment answer : ℕ) → GoesTowards moment answer old new → UsedShows new.phase old new
clock_shows old new moment answer is = shows_as new.phase (after_reach moment answer) old new is.phase (by (nat_lt last_moment answer) (nat_lt answer moment))
  where
    by : (p q : Bool) → UsedShows (if p then refused (past limit.Moment) false else if q then waits moment else rests) old new
    by true q = tt
    by false true = tt
    by false false = tt

tried : (IsNext : Record → Type 0) (old new : World) → Tries IsNext old new → UsedShows new.phase old new
tried IsNext old new (done is) = shows_as new.phase owes old new is.phase tt
tried IsNext old new (failed is) = shows_as new.phase (refused disk_failed false) old new is.phase tt
tried IsNext old new (limited what is) = shows_as new.phase (refused (past what) false) old new is.phase tt

act_shows : (old new : World) (beat : ℕ) (parcel : Parcel) (v w : ActuatorView) (error : ActError) (cause : Cause) → FailsToAct beat parcel v w error cause old new → UsedShows (refused cause false) old new
act_shows old new beat parcel v w act_error.Disk cause is = subst (λ (c : Cause). UsedShows (refused c false) old new) (sym is.why.1) tt
act_shows old new beat parcel v w (act_error.Full needed) cause is = subst (λ (c : Cause). UsedShows (refused c false) old new) (sym is.why.1) tt
act_shows old new beat parcel v w act_error.Memory cause is = subst (λ (c : Cause). UsedShows (refused c false) old new) (sym is.why) tt
act_shows old new beat parcel v w (act_error.Damaged place) cause is = absurd is.why
act_shows old new beat parcel v w act_error.Broken cause is = absurd is.why

step_shows : (old new : World) → Step old new → UsedShows new.phase old new
step_shows old new (opens_clock answer is) = clock_shows old new _ answer is.goes
step_shows old new (finds_run_used agent is) = shows_as new.phase (refused (run_used agent) false) old new is.only.phase is
step_shows old new (asks_clock moment answer is) = clock_shows old new moment answer is.goes
step_shows old new (finds_late moment is) = shows_as new.phase (refused (past limit.Moment) false) old new is.only.phase tt
step_shows old new (begins is) = tried _ old new is.tries
step_shows old new (moves is) = tried _ old new is.tries
step_shows old new (upgrades issue told is) = tried _ old new is.tries
step_shows old new (tells issue told is) = tried _ old new is.tries
step_shows old new (expires issue is) = tried _ old new is.tries
step_shows old new (says bytes is) = shows_as new.phase rests old new is.phase tt
step_shows old new (fails_to_say bytes is) = shows_as new.phase (refused not_said true) old new is.phase tt
step_shows old new (puts_first issue is) = shows_as new.phase rests old new is.puts.phase tt
step_shows old new (resends issue is) = shows_as new.phase rests old new is.puts.phase tt
step_shows old new (takes parcel is) = shows_as new.phase (holds new.site.disk.beat parcel) old new is.phase tt
step_shows old new (finds_none is) = shows_as new.phase looked old new is.phase tt
step_shows old new (fails_to_take is) = shows_as new.phase (refused wants_memory false) old new is.phase tt
step_shows old new (drops beat parcel is) = shows_as new.phase rests old new is.ignores.phase tt
step_shows old new (replies beat parcel is) = tried _ old new is.tries
step_shows old new (ignores_reply beat parcel is) = shows_as new.phase rests old new is.ignores.phase tt
step_shows old new (acts_on beat parcel v w is) = shows_as new.phase rests old new is.phase tt
step_shows old new (repeats_reply beat parcel v w is) = shows_as new.phase rests old new is.ignores.phase tt
step_shows old new (fails_to_act beat parcel v w error cause is) = shows_as new.phase (refused cause false) old new is.phase (act_shows old new beat parcel v w error cause is)
step_shows old new (wants_memory_now is) = shows_as new.phase (refused wants_memory _) old new is.only.phase tt

at_start : (a old new : World) (agent : ℕ) → Steps a old → FindsRunUsed agent old new → FindsRunUsed agent a new
at_start a old new agent nothing is = is
at_start a old new agent (and_then {mid} steps step) is = absurd (step_not_opened mid old step is.phase)

no_refusal : (P : Type 0) (p : Phase) (cause : Cause) (lacks : Bool) → p ≡ opened → p ≡ refused cause lacks → P
no_refusal P p cause lacks e f = absurd (not (sym e ∙ f))
  where
    not : opened ≡ refused cause lacks → ⊥
    not h = cc

pub used_at_once : (a b : World) (agent : ℕ) (lacks : Bool) → a.phase ≡ opened → Steps a b → b.phase ≡ refused (run_used agent) lacks → FindsRunUsed agent a b
used_at_once a b agent lacks first nothing e = no_refusal _ a.phase (run_used agent) lacks first e
used_at_once a b agent lacks first (and_then {mid} steps step) e =
    at_start a mid b agent steps (subst (λ (x : Phase). UsedShows x mid b) e (step_shows mid b step))
