-- What the last step of a session shows: in which turn it stands, why it refuses, and that it waits.
use Rattle.std.proofs.Common.{◌≡◌, ◌≢◌, ℕ, ◌<◌, ◌≤◌, Bool, true, false, [], refl, sym, ◌∙◌, subst, arith}
use Rattle.std.specs.Prelude.{None, nat_lt, if◌then◌else◌, ⊤}
use Rattle.cacao_site.specs.Counts.{next_count}
use Rattle.cacao_site.specs.declared.parcel.Parcel.{Parcel}
use Rattle.run_records.specs.Ranges.{last_moment}
use Rattle.run_records.specs.declared.record.Record.{Record}
use Rattle.flow_core.specs.declared.flow_errors.LimitKind.{LimitKind}
use Rattle.flow_core.specs.declared.flow_errors.LimitKind.TheVariants as limit
use Rattle.flow_core_rules.specs.Changes.{outcome}
use Rattle.flow_world_steps.specs.EngineView.{EngineView}
use Rattle.slpf_actuator.specs.ActuatorView.{ActuatorView}
use Rattle.slpf_actuator.specs.declared.error.ActError.{ActError}
use Rattle.slpf_actuator.specs.declared.error.ActError.TheVariants as act_error
use Rattle.flow_world_steps.specs.Appends.{HasPassedLimit, Tries}
use Rattle.flow_world_steps.specs.Appends.Tries.{done, failed, limited}
use Rattle.flow_world_steps.specs.Sides.{AllPut}
use Rattle.flow_world_steps.specs.Steps.{FailsToAct, GoesTowards, SameSides, Step, after_reach}
use Rattle.flow_world_steps.specs.Steps.Step.{opens_clock, finds_run_used, asks_clock, finds_late, begins, moves, upgrades, tells, expires, says, fails_to_say}
use Rattle.flow_world_steps.specs.Steps.Step.{puts_first, resends, takes, finds_none, fails_to_take, drops, replies, ignores_reply, acts_on, repeats_reply, fails_to_act, wants_memory_now}
use Rattle.flow_world_steps.specs.Steps.Steps.{nothing, and_then}
use Rattle.flow_world_steps.specs.Turns.{BeginsTurn, most_ignored}
use Rattle.flow_world_steps.specs.Worlds.{Cause, Notes, Phase, World, opened, rests, looked, owes, holds, waits, refused, disk_failed, not_said, run_used, past, wants_memory}
use Rattle.flow_world_laws.specs.Ends.{EachInTurn, EachPassed, IsInTurn, LacksLine, LacksOnly, PassesAt, TurnAt}
use Rattle.flow_world_laws.specs.Ends.PassesAt.{by_begin, by_move, by_upgrade, by_told, by_expire, by_reply, by_act}

-- what the last step shows, by the phase to which it led
abbrev pub EndShows : Phase → World → World → Type 0
EndShows looked old new = IsInTurn new
EndShows (holds beat parcel) old new = IsInTurn new × (beat ≡ new.site.disk.beat)
EndShows (waits moment) old new = new.site.clock.shorts ≡ next_count old.site.clock.shorts
EndShows (refused disk_failed lacks) old new = lacks ≡ false
EndShows (refused not_said lacks) old new = lacks ≡ true
EndShows (refused (run_used agent) lacks) old new = lacks ≡ false
EndShows (refused (past what) lacks) old new = (lacks ≡ false) × (what ≢ limit.Moment → PassesAt old new what)
EndShows other old new = ⊤

shows_as : (p q : Phase) (old new : World) → p ≡ q → EndShows q old new → EndShows p old new
shows_as p q old new e is = subst (λ (x : Phase). EndShows x old new) (sym e) is

-- a take leaves the engine and the notes as they were where the turn began
in_turn : (old new : World) → BeginsTurn old → SameSides old new → new.notes ≡ old.notes → IsInTurn new
in_turn old new turn sides notes = record {
  may = record {
    begun = subst (λ (v : EngineView). v.history.records ≢ []) (sym sides.engine) turn.up.begun;
    goes_on = subst (λ (v : EngineView). outcome v.history.seen.lists ≡ None) (sym sides.engine) turn.goes_on;
    budget = subst (λ (n : Notes). 1 ≤ n.left) (sym notes) turn.budget;
  };
  put = subst (λ (v : EngineView). AllPut v) (sym sides.engine) turn.put;
  calm = subst (λ (n : Notes). n.ignored < most_ignored) (sym notes) turn.calm;
}

clock_shows : (old new : World) (moment answer : ℕ) → GoesTowards moment answer old new → EndShows new.phase old new
clock_shows old new moment answer is = shows_as new.phase (after_reach moment answer) old new is.phase (by (nat_lt last_moment answer) (nat_lt answer moment) refl)
  where
    less : (a b : ℕ) → nat_lt a b ≡ true → a < b
    less a b h = grind arith

    by : (p q : Bool) → nat_lt answer moment ≡ q → EndShows (if p then refused (past limit.Moment) false else if q then waits moment else rests) old new
    by true q f = (refl, λ not. absurd (not refl))
    by false true f = is.reaches.short (less answer moment f)
    by false false f = tt

tried : (IsNext : Record → Type 0) (old new : World) → Tries IsNext old new → ((what : LimitKind) → HasPassedLimit IsNext what old new → PassesAt old new what) → EndShows new.phase old new
tried IsNext old new (done is) passes = shows_as new.phase owes old new is.phase tt
tried IsNext old new (failed is) passes = shows_as new.phase (refused disk_failed false) old new is.phase refl
tried IsNext old new (limited what is) passes = shows_as new.phase (refused (past what) false) old new is.phase (refl, λ not. passes what is)

act_shows : (old new : World) (beat : ℕ) (parcel : Parcel) (v w : ActuatorView) (error : ActError) (cause : Cause) → FailsToAct beat parcel v w error cause old new → EndShows (refused cause false) old new
act_shows old new beat parcel v w act_error.Disk cause is = subst (λ (c : Cause). EndShows (refused c false) old new) (sym is.why.1) refl
act_shows old new beat parcel v w (act_error.Full needed) cause is = subst (λ (c : Cause). EndShows (refused c false) old new) (sym is.why.1)
    (refl, λ not. by_act beat parcel v w needed (subst (λ (c : Cause). FailsToAct beat parcel v w (act_error.Full needed) c old new) is.why.1 is))
act_shows old new beat parcel v w act_error.Memory cause is = subst (λ (c : Cause). EndShows (refused c false) old new) (sym is.why) tt
act_shows old new beat parcel v w (act_error.Damaged place) cause is = absurd is.why
act_shows old new beat parcel v w act_error.Broken cause is = absurd is.why

pub step_shows : (old new : World) → Step old new → EndShows new.phase old new
step_shows old new (opens_clock answer is) = clock_shows old new _ answer is.goes
step_shows old new (finds_run_used agent is) = shows_as new.phase (refused (run_used agent) false) old new is.only.phase refl
step_shows old new (asks_clock moment answer is) = clock_shows old new moment answer is.goes
step_shows old new (finds_late moment is) = shows_as new.phase (refused (past limit.Moment) false) old new is.only.phase (refl, λ not. absurd (not refl))
step_shows old new (begins is) = tried _ old new is.tries (λ what passes. by_begin what is passes)
step_shows old new (moves is) = tried _ old new is.tries (λ what passes. by_move what is passes)
step_shows old new (upgrades issue told is) = tried _ old new is.tries (λ what passes. by_upgrade what issue told is passes)
step_shows old new (tells issue told is) = tried _ old new is.tries (λ what passes. by_told what issue told is passes)
step_shows old new (expires issue is) = tried _ old new is.tries (λ what passes. by_expire what issue is passes)
step_shows old new (says bytes is) = shows_as new.phase rests old new is.phase tt
step_shows old new (fails_to_say bytes is) = shows_as new.phase (refused not_said true) old new is.phase refl
step_shows old new (puts_first issue is) = shows_as new.phase rests old new is.puts.phase tt
step_shows old new (resends issue is) = shows_as new.phase rests old new is.puts.phase tt
step_shows old new (takes parcel is) = shows_as new.phase (holds new.site.disk.beat parcel) old new is.phase (in_turn old new is.turn is.sides is.notes, refl)
step_shows old new (finds_none is) = shows_as new.phase looked old new is.phase (in_turn old new is.turn is.sides is.notes)
step_shows old new (fails_to_take is) = shows_as new.phase (refused wants_memory false) old new is.phase tt
step_shows old new (drops beat parcel is) = shows_as new.phase rests old new is.ignores.phase tt
step_shows old new (replies beat parcel is) = tried _ old new is.tries (λ what passes. by_reply what beat parcel is passes)
step_shows old new (ignores_reply beat parcel is) = shows_as new.phase rests old new is.ignores.phase tt
step_shows old new (acts_on beat parcel v w is) = shows_as new.phase rests old new is.phase tt
step_shows old new (repeats_reply beat parcel v w is) = shows_as new.phase rests old new is.ignores.phase tt
step_shows old new (fails_to_act beat parcel v w error cause is) = shows_as new.phase (refused cause false) old new is.phase (act_shows old new beat parcel v w error cause is)
step_shows old new (wants_memory_now is) = shows_as new.phase (refused wants_memory _) old new is.only.phase tt

-- ---- turns

turn_of : (p : Phase) (old new : World) → EndShows p old new → TurnAt p new
turn_of opened old new is = tt
turn_of rests old new is = tt
turn_of looked old new is = is
turn_of owes old new is = tt
turn_of (holds beat parcel) old new is = is
turn_of (waits due_) old new is = tt
turn_of (refused cause lacks) old new is = tt

pub steps_in_turn : EachInTurn
steps_in_turn a b first nothing = subst (λ (x : Phase). TurnAt x a) (sym first) tt
steps_in_turn a b first (and_then {mid} steps step) = turn_of b.phase mid b (step_shows mid b step)

-- ---- refusals

lacks_of : (cause : Cause) (lacks : Bool) (old new : World) → EndShows (refused cause lacks) old new → LacksLine cause lacks
lacks_of disk_failed lacks old new is = is
lacks_of not_said lacks old new is = is
lacks_of (run_used agent) lacks old new is = is
lacks_of (past what) lacks old new is = is.0
lacks_of wants_memory lacks old new is = tt

no_refusal : (P : Type 0) (p : Phase) (cause : Cause) (lacks : Bool) → p ≡ opened → p ≡ refused cause lacks → P
no_refusal P p cause lacks e f = absurd (not (sym e ∙ f))
  where
    not : opened ≡ refused cause lacks → ⊥
    not h = cc

pub steps_lack_only : LacksOnly
steps_lack_only a b first nothing cause lacks e = no_refusal _ a.phase cause lacks first e
steps_lack_only a b first (and_then {mid} steps step) cause lacks e =
    lacks_of cause lacks mid b (subst (λ (x : Phase). EndShows x mid b) e (step_shows mid b step))

pub steps_passed : EachPassed
steps_passed a b first nothing what lacks e not = no_refusal _ a.phase (past what) lacks first e
steps_passed a b first (and_then {mid} steps step) what lacks e not =
    let shown = subst (λ (x : Phase). EndShows x mid b) e (step_shows mid b step) in
    record { old = mid; before = steps; passes = shown.1 not }
