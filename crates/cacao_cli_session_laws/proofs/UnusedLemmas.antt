-- While the journal is empty no filter has an act of the run, but where a session finds that before it asks the clock.
use Rattle.std.proofs.Common.{◌≡◌, ◌⊎◌, inl, inr, ◌∙◌, refl, sym, subst, ℕ, ◌≤◌, ◌-◌, List, [], ◌∷◌, ◌++◌, false}
use Rattle.std.specs.Prelude.{Any, slice_get, Some, ⊤}
use Rattle.cacao_site.specs.declared.parcel.Parcel.{Parcel}
use Rattle.run_records.specs.declared.act.Act.{Act}
use Rattle.run_records.specs.declared.record.Record.{Record}
use Rattle.slpf_actuator.specs.ActuatorView.{ActuatorView}
use Rattle.flow_world_steps.specs.Appends.{Tries}
use Rattle.flow_world_steps.specs.Appends.Tries.{done, failed, limited}
use Rattle.flow_world_steps.specs.Steps.{HasRun, Step, Steps}
use Rattle.flow_world_steps.specs.Steps.Step.{opens_clock, finds_run_used, asks_clock, finds_late, begins, moves, upgrades, tells, expires, says, fails_to_say, puts_first, resends, takes, finds_none, fails_to_take, drops, replies, ignores_reply, acts_on, repeats_reply, fails_to_act, wants_memory_now}
use Rattle.flow_world_steps.specs.Steps.Steps.{nothing, and_then}
use Rattle.flow_world_steps.specs.Worlds.{IsGoing, Phase, World, opened, rests, looked, owes, holds, waits, refused, run_used, wants_memory}
use Rattle.flow_world_steps.proofs.Adding.{steps_add, steps_same_given}
use Rattle.flow_world_steps.proofs.Ended.{step_going}
use Rattle.flow_world_laws.specs.Ends.{TurnAt}
use Rattle.flow_world_laws.proofs.Shown.{steps_in_turn}

abbrev pub NotUsed : World → Type 0
NotUsed w = w.engine.history.records ≡ [] → (agent : ℕ) → 1 ≤ agent → agent ≤ 16 → HasRun w agent → ⊥

-- where the clock was not asked yet
abbrev pub IsEarly : Phase → Type 0
IsEarly opened = ⊤
IsEarly (refused (run_used agent) lacks) = ⊤
IsEarly (refused wants_memory lacks) = ⊤
IsEarly other = ⊥

front-empty : (xs ys : List Record) → xs ++ ys ≡ [] → xs ≡ []
front-empty [] ys e = refl
front-empty (x ∷ xs) ys e = absurd (cc)

one : {old new : World} → Step old new → Steps old new
one step = and_then nothing step

-- the filters are as they were
kept : (old new : World) → Step old new → new.filters ≡ old.filters → NotUsed old → NotUsed new
kept old new step filters was empty agent low high has =
    let adds = steps_add old new (one step) in
    let run : new.engine.history.seen.run ≡ old.engine.history.seen.run = (steps_same_given old new (one step)).run in
    was (front-empty old.engine.history.records adds.added (sym adds.is ∙ empty)) agent low high (record {
      v = has.v;
      there = subst (λ (l : List ActuatorView). slice_get l (agent - 1) ≡ Some has.v) filters has.there;
      has = subst (λ (n : ℕ). Any (λ (act : Act). act.run ≡ n) has.v.acts) run has.has;
    })

tried : {IsNext : Record → Type 0} (old new : World) → Tries IsNext old new → new.filters ≡ old.filters
tried old new (done is) = is.filters
tried old new (failed is) = is.filters
tried old new (limited what is) = is.filters

-- a parcel is in hand once the run has begun
in-hand : (a old new : World) (beat : ℕ) (parcel : Parcel) → a.phase ≡ opened → Steps a old → Step old new → old.phase ≡ holds beat parcel → NotUsed new
in-hand a old new beat parcel first before step at empty agent low high has =
    let turn : TurnAt (holds beat parcel) old = subst (λ (p : Phase). TurnAt p old) at (steps_in_turn a old first before) in
    let adds = steps_add old new (one step) in
    turn.0.may.begun (front-empty old.engine.history.records adds.added (sym adds.is ∙ empty))

step-not-used : (a old new : World) → a.phase ≡ opened → Steps a old → Step old new → NotUsed old → NotUsed new
step-not-used a old new first before (opens_clock answer is) = kept old new (opens_clock answer is) is.goes.sides.filters
step-not-used a old new first before (finds_run_used agent is) = kept old new (finds_run_used agent is) is.only.sides.filters
step-not-used a old new first before (asks_clock moment answer is) = kept old new (asks_clock moment answer is) is.goes.sides.filters
step-not-used a old new first before (finds_late moment is) = kept old new (finds_late moment is) is.only.sides.filters
step-not-used a old new first before (begins is) = kept old new (begins is) (tried old new is.tries)
step-not-used a old new first before (moves is) = kept old new (moves is) (tried old new is.tries)
step-not-used a old new first before (upgrades issue told is) = kept old new (upgrades issue told is) (tried old new is.tries)
step-not-used a old new first before (tells issue told is) = kept old new (tells issue told is) (tried old new is.tries)
step-not-used a old new first before (expires issue is) = kept old new (expires issue is) (tried old new is.tries)
step-not-used a old new first before (says bytes is) = kept old new (says bytes is) is.speaks.sides.filters
step-not-used a old new first before (fails_to_say bytes is) = kept old new (fails_to_say bytes is) is.speaks.sides.filters
step-not-used a old new first before (puts_first issue is) = kept old new (puts_first issue is) is.puts.filters
step-not-used a old new first before (resends issue is) = kept old new (resends issue is) is.puts.filters
step-not-used a old new first before (takes parcel is) = kept old new (takes parcel is) is.sides.filters
step-not-used a old new first before (finds_none is) = kept old new (finds_none is) is.sides.filters
step-not-used a old new first before (fails_to_take is) = kept old new (fails_to_take is) is.sides.filters
step-not-used a old new first before (drops beat parcel is) = kept old new (drops beat parcel is) is.ignores.filters
step-not-used a old new first before (replies beat parcel is) = kept old new (replies beat parcel is) (tried old new is.tries)
step-not-used a old new first before (ignores_reply beat parcel is) = kept old new (ignores_reply beat parcel is) is.ignores.filters
step-not-used a old new first before (acts_on beat parcel v w is) = λ was. in-hand a old new beat parcel first before (acts_on beat parcel v w is) is.holds_command.phase
step-not-used a old new first before (repeats_reply beat parcel v w is) = kept old new (repeats_reply beat parcel v w is) is.ignores.filters
step-not-used a old new first before (fails_to_act beat parcel v w error cause is) = λ was. in-hand a old new beat parcel first before (fails_to_act beat parcel v w error cause is) is.holds_command.phase
step-not-used a old new first before (wants_memory_now is) = kept old new (wants_memory_now is) is.only.sides.filters

-- the first step asks the clock, or ends the session
early : (p q : Phase) → IsEarly q → p ≡ q → IsEarly p
early p q is e = subst IsEarly (sym e) is

unlike : (P : Type 0) (p q : Phase) → (q ≡ opened → ⊥) → p ≡ q → p ≡ opened → P
unlike P p q not e f = absurd (not (sym e ∙ f))

first-step : (old new : World) → old.phase ≡ opened → Step old new → NotUsed new ⊎ IsEarly new.phase
first-step old new first (opens_clock answer is) = inl (kept old new (opens_clock answer is) is.goes.sides.filters is.unused)
first-step old new first (finds_run_used agent is) = inr (early new.phase (refused (run_used agent) false) tt is.only.phase)
first-step old new first (wants_memory_now is) = inr (early new.phase (refused wants_memory _) tt is.only.phase)
first-step old new first (asks_clock moment answer is) = unlike _ old.phase looked (λ e. cc) is.next.up_to_date.on_time.untold.idle.has_looked.phase first
first-step old new first (finds_late moment is) = unlike _ old.phase looked (λ e. cc) is.next.up_to_date.on_time.untold.idle.has_looked.phase first
first-step old new first (begins is) = unlike _ old.phase rests (λ e. cc) is.phase first
first-step old new first (moves is) = unlike _ old.phase looked (λ e. cc) is.has_looked.phase first
first-step old new first (upgrades issue told is) = unlike _ old.phase looked (λ e. cc) is.to_be_told.idle.has_looked.phase first
first-step old new first (tells issue told is) = unlike _ old.phase looked (λ e. cc) is.to_be_told.idle.has_looked.phase first
first-step old new first (expires issue is) = unlike _ old.phase looked (λ e. cc) is.overdue.untold.idle.has_looked.phase first
first-step old new first (says bytes is) = unlike _ old.phase owes (λ e. cc) is.speaks.phase first
first-step old new first (fails_to_say bytes is) = unlike _ old.phase owes (λ e. cc) is.speaks.phase first
first-step old new first (puts_first issue is) = unlike _ old.phase rests (λ e. cc) is.phase first
first-step old new first (resends issue is) = unlike _ old.phase looked (λ e. cc) is.due.on_time.untold.idle.has_looked.phase first
first-step old new first (takes parcel is) = unlike _ old.phase rests (λ e. cc) is.turn.phase first
first-step old new first (finds_none is) = unlike _ old.phase rests (λ e. cc) is.turn.phase first
first-step old new first (fails_to_take is) = unlike _ old.phase rests (λ e. cc) is.turn.phase first
first-step old new first (drops beat parcel is) = unlike _ old.phase (holds beat parcel) (λ e. cc) is.phase first
first-step old new first (replies beat parcel is) = unlike _ old.phase (holds beat parcel) (λ e. cc) is.holds_reply.phase first
first-step old new first (ignores_reply beat parcel is) = unlike _ old.phase (holds beat parcel) (λ e. cc) is.holds_reply.phase first
first-step old new first (acts_on beat parcel v w is) = unlike _ old.phase (holds beat parcel) (λ e. cc) is.holds_command.phase first
first-step old new first (repeats_reply beat parcel v w is) = unlike _ old.phase (holds beat parcel) (λ e. cc) is.holds_command.phase first
first-step old new first (fails_to_act beat parcel v w error cause is) = unlike _ old.phase (holds beat parcel) (λ e. cc) is.holds_command.phase first

-- it goes on where it is early
is-opened : (p : Phase) → IsEarly p → IsGoing p → p ≡ opened
is-opened opened is going = refl
is-opened (refused cause lacks) is going = absurd going
is-opened rests is going = absurd is
is-opened looked is going = absurd is
is-opened owes is going = absurd is
is-opened (holds beat parcel) is going = absurd is
is-opened (waits due) is going = absurd is

pub steps-not-used : (a b : World) → a.phase ≡ opened → Steps a b → NotUsed b ⊎ IsEarly b.phase
steps-not-used a b first nothing = inr (early a.phase opened tt first)
steps-not-used a b first (and_then {mid} steps step) = elim (steps-not-used a mid first steps) [
  | inl was ↦ inl (step-not-used a mid b first steps step was)
  | inr is ↦ first-step mid b (is-opened mid.phase is (step_going mid b step)) step
]
