-- A session that finds its number used has done nothing since its files were opened.
use Rattle.std.proofs.Common.{◌≡◌, sym, ◌∙◌, subst, ℕ, Bool, true, false}
use Rattle.std.specs.Prelude.{nat_lt, if◌then◌else◌, ⊤}
use Rattle.cacao_site.specs.declared.parcel.Parcel.{Parcel}
use Rattle.run_records.specs.Ranges.{last_moment}
use Rattle.run_records.specs.declared.record.Record.{Record}
use Rattle.flow_core.specs.declared.flow_errors.LimitKind.TheVariants as limit
use Rattle.slpf_actuator.specs.ActuatorView.{ActuatorView}
use Rattle.slpf_actuator.specs.declared.error.ActError.{ActError}
use Rattle.slpf_actuator.specs.declared.error.ActError.TheVariants as act_error
use Rattle.flow_world_steps.specs.Appends.{Tries}
use Rattle.flow_world_steps.specs.Appends.Tries.{done, failed, limited}
use Rattle.flow_world_steps.specs.Steps.{FailsToAct, Step, Steps, after_reach}
use Rattle.flow_world_steps.specs.Steps.Step.{opens_clock, finds_run_used, asks_clock, finds_late, begins, moves, upgrades, tells, expires, says, fails_to_say}
use Rattle.flow_world_steps.specs.Steps.Step.{puts_first, resends, takes, finds_none, fails_to_take, drops, replies, ignores_reply, acts_on, repeats_reply, fails_to_act, wants_memory_now}
use Rattle.flow_world_steps.specs.Steps.Steps.{nothing, and_then}
use Rattle.flow_world_steps.specs.Worlds.{Cause, Phase, World, opened, rests, looked, owes, holds, waits, refused, disk_failed, not_said, run_used, past, wants_memory}
use Rattle.flow_world_steps.proofs.Asked.{step_not_opened}

-- what the step that finds the number used shows
abbrev Finds : Phase → World → World → Type 0
Finds (refused (run_used agent) lacks) old new = (old.phase ≡ opened) × (new.site ≡ old.site) × (new.filters ≡ old.filters)
Finds other old new = ⊤

finds_as : (p q : Phase) (old new : World) → p ≡ q → Finds q old new → Finds p old new
finds_as p q old new e is = subst (λ (x : Phase). Finds x old new) (sym e) is

reached : (old new : World) (moment answer : ℕ) → new.phase ≡ after_reach moment answer → Finds new.phase old new
reached old new moment answer e = finds_as new.phase (after_reach moment answer) old new e (by (nat_lt last_moment answer) (nat_lt answer moment))
  where
    by : (p q : Bool) → Finds (if p then refused (past limit.Moment) false else if q then waits moment else rests) old new
    by true q = tt
    by false true = tt
    by false false = tt

tried : (IsNext : Record → Type 0) (old new : World) → Tries IsNext old new → Finds new.phase old new
tried IsNext old new (done is) = finds_as new.phase owes old new is.phase tt
tried IsNext old new (failed is) = finds_as new.phase (refused disk_failed false) old new is.phase tt
tried IsNext old new (limited what is) = finds_as new.phase (refused (past what) false) old new is.phase tt

fails : (old new : World) (beat : ℕ) (parcel : Parcel) (v w : ActuatorView) (error : ActError) (cause : Cause) → FailsToAct beat parcel v w error cause old new → Finds (refused cause false) old new
fails old new beat parcel v w act_error.Disk cause is = subst (λ (c : Cause). Finds (refused c false) old new) (sym is.why.1) tt
fails old new beat parcel v w (act_error.Full needed) cause is = subst (λ (c : Cause). Finds (refused c false) old new) (sym is.why.1) tt
fails old new beat parcel v w act_error.Memory cause is = subst (λ (c : Cause). Finds (refused c false) old new) (sym is.why) tt
fails old new beat parcel v w (act_error.Damaged place) cause is = absurd is.why
fails old new beat parcel v w act_error.Broken cause is = absurd is.why

step_finds : (old new : World) → Step old new → Finds new.phase old new
step_finds old new (opens_clock answer is) = reached old new _ answer is.goes.phase
step_finds old new (finds_run_used agent is) = finds_as new.phase (refused (run_used agent) false) old new is.only.phase (is.phase, is.only.site, is.only.sides.filters)
step_finds old new (asks_clock moment answer is) = reached old new moment answer is.goes.phase
step_finds old new (finds_late moment is) = finds_as new.phase (refused (past limit.Moment) false) old new is.only.phase tt
step_finds old new (begins is) = tried _ old new is.tries
step_finds old new (moves is) = tried _ old new is.tries
step_finds old new (upgrades issue told is) = tried _ old new is.tries
step_finds old new (tells issue told is) = tried _ old new is.tries
step_finds old new (expires issue is) = tried _ old new is.tries
step_finds old new (says bytes is) = finds_as new.phase rests old new is.phase tt
step_finds old new (fails_to_say bytes is) = finds_as new.phase (refused not_said true) old new is.phase tt
step_finds old new (puts_first issue is) = finds_as new.phase rests old new is.puts.phase tt
step_finds old new (resends issue is) = finds_as new.phase rests old new is.puts.phase tt
step_finds old new (takes parcel is) = finds_as new.phase (holds new.site.disk.beat parcel) old new is.phase tt
step_finds old new (finds_none is) = finds_as new.phase looked old new is.phase tt
step_finds old new (fails_to_take is) = finds_as new.phase (refused wants_memory false) old new is.phase tt
step_finds old new (drops beat parcel is) = finds_as new.phase rests old new is.ignores.phase tt
step_finds old new (replies beat parcel is) = tried _ old new is.tries
step_finds old new (ignores_reply beat parcel is) = finds_as new.phase rests old new is.ignores.phase tt
step_finds old new (acts_on beat parcel v w is) = finds_as new.phase rests old new is.phase tt
step_finds old new (repeats_reply beat parcel v w is) = finds_as new.phase rests old new is.ignores.phase tt
step_finds old new (fails_to_act beat parcel v w error cause is) = finds_as new.phase (refused cause false) old new is.phase (fails old new beat parcel v w error cause is)
step_finds old new (wants_memory_now is) = finds_as new.phase (refused wants_memory _) old new is.only.phase tt

-- the site and the filters are those behind the openings
pub record IsFirst (a b : World) : Type 0 where
  pub site : b.site ≡ a.site
  pub filters : b.filters ≡ a.filters

opened_not : (P : Type 0) (p : Phase) (cause : Cause) (lacks : Bool) → p ≡ opened → p ≡ refused cause lacks → P
opened_not P p cause lacks e f = absurd (not (sym e ∙ f))
  where
    not : opened ≡ refused cause lacks → ⊥
    not h = cc

last_finds : (a old new : World) → Steps a old → old.phase ≡ opened → new.site ≡ old.site → new.filters ≡ old.filters → IsFirst a new
last_finds a old new nothing e site filters = record { site = site; filters = filters }
last_finds a old new (and_then {mid} steps step) e site filters = absurd (step_not_opened mid old step e)

pub finds_first : (a b : World) (agent : ℕ) (lacks : Bool) → a.phase ≡ opened → Steps a b → b.phase ≡ refused (run_used agent) lacks → IsFirst a b
finds_first a b agent lacks first nothing e = opened_not _ a.phase (run_used agent) lacks first e
finds_first a b agent lacks first (and_then {mid} steps step) e =
    let found = subst (λ (x : Phase). Finds x mid b) e (step_finds mid b step) in
    last_finds a mid b steps found.0 found.1 found.2
