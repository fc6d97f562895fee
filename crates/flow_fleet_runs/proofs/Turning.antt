-- How a fleet stands in its turns, from its opening on.
use Rattle.std.proofs.Common.{◌≡◌, ◌≢◌, ◌⊎◌, inl, inr, ℕ, ◌<◌, ◌≤◌, Bool, true, false, List, [], refl, sym, ◌∙◌, subst, ap, arith}
use Rattle.std.specs.Prelude.{Some, slice_get, nat_lt, ⊤, if◌then◌else◌}
use Rattle.run_records.specs.Ranges.{last_moment}
use Rattle.run_records.specs.declared.record.Record.{Record}
use Rattle.flow_core.specs.declared.flow_errors.LimitKind.TheVariants as limit
use Rattle.flow_core_rules.specs.Moves.{due}
use Rattle.flow_engine.specs.EngineView.{EngineView}
use Rattle.flow_world_steps.specs.Appends.{Tries}
use Rattle.flow_world_steps.specs.Appends.Tries.{done, failed, limited}
use Rattle.flow_world_steps.specs.Sides.{AllPut}
use Rattle.flow_world_steps.specs.Turns.{most_ignored}
use Rattle.flow_world_steps.specs.Worlds.{Notes, Phase, World, holds, looked, opened, owes, past, refused, rests, waits}
use Rattle.flow_fleet_steps.specs.Openings.{IsFleetOpened, Runs}
use Rattle.flow_fleet_steps.specs.Steps.{FleetStep, FleetSteps, GoesTowards, Ignores}
use Rattle.flow_fleet_steps.specs.Steps.FleetStep.{opens_clock, finds_run_used, asks_clock, finds_late, begins, moves, expires, says, fails_to_say, puts_first, resends}
use Rattle.flow_fleet_steps.specs.Steps.FleetStep.{takes, finds_none, fails_to_take, drops, replies, ignores_reply, acts_on, repeats_reply, fails_to_act, wants_memory_now}
use Rattle.flow_fleet_steps.specs.Steps.FleetSteps.{nothing, and_then}
use Rattle.flow_fleet_steps.specs.Turns.{BeginsTurn, GoesOnAt}
use Rattle.flow_fleet_steps.specs.Worlds.{At, EachRun, FleetWorld, Shared}
use Rattle.flow_fleet_runs.specs.Ends.{WaitsSinceOpening}

-- not too many parcels changed no journal
abbrev pub IsCalm : FleetWorld → Type 0
IsCalm w = w.notes.ignored < most_ignored

-- each run has begun, and its commands were put; one goes on, and a record more may be appended
pub record GoesOn (w : FleetWorld) : Type 0 where
  pub begun : EachRun w.engines (λ place v. v.history.records ≢ [])
  pub put : EachRun w.engines (λ place v. AllPut v)
  pub on : ℕ
  pub goes_on : GoesOnAt w on
  pub budget : 1 ≤ w.notes.left

-- something is due for one
pub record HasDue (w : FleetWorld) : Type 0 where
  pub place : ℕ
  pub at : ℕ
  pub due_is : At w place (λ v. due v.history.seen ≡ Some at)

-- what is known at each phase
abbrev pub TurnsAt : Phase → FleetWorld → FleetWorld → Type 0
TurnsAt opened a w = (w ≡ a) × IsCalm w
TurnsAt rests a w = IsCalm w ⊎ GoesOn w
TurnsAt looked a w = IsCalm w × GoesOn w
TurnsAt owes a w = IsCalm w
TurnsAt (holds beat parcel) a w = IsCalm w × GoesOn w
TurnsAt (waits moment) a w = WaitsSinceOpening a w ⊎ (GoesOn w × HasDue w)
TurnsAt (refused cause lacks) a w = ⊤

turns_as : (p : Phase) (a w : FleetWorld) → w.phase ≡ p → TurnsAt p a w → TurnsAt w.phase a w
turns_as p a w e is = subst (λ (x : Phase). TurnsAt x a w) (sym e) is

pub turns_at : (p : Phase) (a w : FleetWorld) → w.phase ≡ p → TurnsAt w.phase a w → TurnsAt p a w
turns_at p a w e is = subst (λ (x : Phase). TurnsAt x a w) e is

still_calm : (old new : FleetWorld) → new.notes.ignored ≡ old.notes.ignored → IsCalm old → IsCalm new
still_calm old new same calm = omega (arith, same, calm)

same_calm : (old new : FleetWorld) → new.notes ≡ old.notes → IsCalm old → IsCalm new
same_calm old new notes = still_calm old new (ap (λ (n : Shared). n.ignored) notes)

still_goes : (old new : FleetWorld) → new.engines ≡ old.engines → new.notes.left ≡ old.notes.left → GoesOn old → GoesOn new
still_goes old new engines left is = record {
  begun = subst (λ (l : List EngineView). EachRun l (λ place v. v.history.records ≢ [])) (sym engines) is.begun;
  put = subst (λ (l : List EngineView). EachRun l (λ place v. AllPut v)) (sym engines) is.put;
  on = is.on;
  goes_on = record { v = is.goes_on.v; there = subst (λ (l : List EngineView). slice_get l is.on ≡ Some is.goes_on.v) (sym engines) is.goes_on.there; has = is.goes_on.has };
  budget = omega (arith, left, is.budget);
}

begins_so : (w : FleetWorld) → BeginsTurn w → GoesOn w
begins_so w is = record {
  begun = λ place v there. (is.settled place v there).up.begun;
  put = λ place v there. (is.settled place v there).put;
  on = is.on;
  goes_on = is.goes_on;
  budget = is.budget;
}

-- ---- kinds of calls

tried_ignored : (IsNext : Record → Type 0) (old new : World) → Tries IsNext old new → new.notes.ignored ≡ old.notes.ignored
tried_ignored IsNext old new (done is) = ap (λ (n : Notes). n.ignored) is.notes
tried_ignored IsNext old new (failed is) = ap (λ (n : Notes). n.ignored) is.notes
tried_ignored IsNext old new (limited what is) = ap (λ (n : Notes). n.ignored) is.notes

-- a record may have been appended: its line is owed, or the fleet refuses
tried : (IsNext : Record → Type 0) (x y : World) (a new : FleetWorld) → Tries IsNext x y → new.phase ≡ y.phase → IsCalm new → TurnsAt new.phase a new
tried IsNext x y a new (done is) same calm = turns_as owes a new (same ∙ is.phase) calm
tried IsNext x y a new (failed is) same calm = turns_as _ a new (same ∙ is.phase) tt
tried IsNext x y a new (limited what is) same calm = turns_as _ a new (same ∙ is.phase) tt

-- the clock was asked
asked : (moment answer : ℕ) (a old new : FleetWorld) → GoesTowards moment answer old new → IsCalm old
    → (new.phase ≡ waits moment → WaitsSinceOpening a new ⊎ (GoesOn new × HasDue new)) → TurnsAt new.phase a new
asked moment answer a old new is calm short = by (nat_lt last_moment answer) (nat_lt answer moment) is.phase
  where
    by : (p q : Bool) → new.phase ≡ (if p then refused (past limit.Moment) false else if q then waits moment else rests) → TurnsAt new.phase a new
    by true q e = turns_as _ a new e tt
    by false true e = turns_as _ a new e (short e)
    by false false e = turns_as rests a new e (inl (still_calm old new (ap (λ (n : Shared). n.ignored) is.notes) calm))

-- a parcel in hand changed no journal
ignored : (a old new : FleetWorld) → new.engines ≡ old.engines → new.notes.left ≡ old.notes.left → new.phase ≡ rests → GoesOn old → TurnsAt new.phase a new
ignored a old new engines left phase on = turns_as rests a new phase (inr (still_goes old new engines left on))

dropped : (a old new : FleetWorld) → Ignores old new → GoesOn old → TurnsAt new.phase a new
dropped a old new is = ignored a old new is.sides.engines (ap (λ (n : Shared). n.left) is.notes) is.phase

-- where too many parcels changed nothing, no run is to begin, and no command is to be put
calm_of : (w : FleetWorld) → IsCalm w ⊎ GoesOn w → (GoesOn w → ⊥) → IsCalm w
calm_of w is not = elim is [ inl calm ↦ calm | inr on ↦ absurd (not on) ]

step_turns : (a old new : FleetWorld) → TurnsAt old.phase a old → FleetStep old new → TurnsAt new.phase a new
step_turns a old new was (opens_clock answer is) =
    let first = turns_at opened a old is.phase was in
    asked _ answer a old new is.goes first.1 (λ e. inl (subst (λ (x : FleetWorld). WaitsSinceOpening x new) first.0 (record { answer = answer; opens = is; short = e })))
step_turns a old new was (finds_run_used place agent is) = turns_as _ a new is.only.phase tt
step_turns a old new was (asks_clock moment answer is) =
    let turn = turns_at looked a old is.next.up_to_date.on_time.idle.has_looked.phase was in
    let next = is.next.next in
    let engines = is.goes.sides.engines in
    asked moment answer a old new is.goes turn.0 (λ e. inr (
      still_goes old new engines (ap (λ (n : Shared). n.left) is.goes.notes) turn.1,
      record {
        place = next.place;
        at = next.of_one.at;
        due_is = record { v = next.v; there = subst (λ (l : List EngineView). slice_get l next.place ≡ Some next.v) (sym engines) next.there; has = next.of_one.due_is };
      },
    ))
step_turns a old new was (finds_late moment is) = turns_as _ a new is.only.phase tt
step_turns a old new was (begins place is) =
    let d = is.does in
    let calm = calm_of old (turns_at rests a old d.does.phase was) (λ on. on.begun place d.v d.there d.does.empty) in
    tried _ _ _ a new d.does.tries refl (still_calm old new (tried_ignored _ _ _ d.does.tries) calm)
step_turns a old new was (moves place is) =
    let turn = turns_at looked a old is.has_looked.phase was in
    tried _ _ _ a new is.does.does.tries refl (still_calm old new (tried_ignored _ _ _ is.does.does.tries) turn.0)
step_turns a old new was (expires place issue is) =
    let turn = turns_at looked a old is.idle.has_looked.phase was in
    tried _ _ _ a new is.does.does.tries refl (still_calm old new (tried_ignored _ _ _ is.does.does.tries) turn.0)
step_turns a old new was (says place v bytes is) = turns_as rests a new is.phase (inl (same_calm old new is.speaks.notes (turns_at owes a old is.speaks.phase was)))
step_turns a old new was (fails_to_say place v bytes is) = turns_as _ a new is.phase tt
step_turns a old new was (puts_first place issue is) =
    let d = is.does in
    let calm = calm_of old (turns_at rests a old d.does.phase was) (λ on. on.put place d.v d.there issue d.does.puts.sends.it d.does.puts.sends.is_open.waiting d.does.first) in
    turns_as rests a new d.does.puts.phase (inl (still_calm old new (ap (λ (n : Notes). n.ignored) d.does.puts.notes) calm))
step_turns a old new was (resends place issue is) =
    let turn = turns_at looked a old is.on_time.idle.has_looked.phase was in
    turns_as rests a new is.does.does.puts.phase (inl (still_calm old new (ap (λ (n : Notes). n.ignored) is.does.does.puts.notes) turn.0))
step_turns a old new was (takes parcel is) =
    turns_as _ a new is.phase (same_calm old new is.notes is.turn.calm, still_goes old new is.sides.engines (ap (λ (n : Shared). n.left) is.notes) (begins_so old is.turn))
step_turns a old new was (finds_none is) =
    turns_as looked a new is.phase (same_calm old new is.notes is.turn.calm, still_goes old new is.sides.engines (ap (λ (n : Shared). n.left) is.notes) (begins_so old is.turn))
step_turns a old new was (fails_to_take is) = turns_as _ a new is.phase tt
step_turns a old new was (drops beat parcel is) = dropped a old new is.ignores (turns_at (holds beat parcel) a old is.phase was).1
step_turns a old new was (replies beat parcel place is) =
    let turn = turns_at (holds beat parcel) a old is.does.does.holds_reply.phase was in
    tried _ _ _ a new is.does.does.tries refl (still_calm old new (tried_ignored _ _ _ is.does.does.tries) turn.0)
step_turns a old new was (ignores_reply beat parcel is) = dropped a old new is.ignores (turns_at (holds beat parcel) a old is.holds_reply.phase was).1
step_turns a old new was (acts_on beat parcel v w is) =
    ignored a old new is.engines (ap (λ (n : Notes). n.left) is.does.notes) is.does.phase (turns_at (holds beat parcel) a old is.does.holds_command.phase was).1
step_turns a old new was (repeats_reply beat parcel v w is) =
    ignored a old new is.engines (ap (λ (n : Notes). n.left) is.does.ignores.notes) is.does.ignores.phase (turns_at (holds beat parcel) a old is.does.holds_command.phase was).1
step_turns a old new was (fails_to_act beat parcel v w error cause is) = turns_as _ a new is.does.phase tt
step_turns a old new was (wants_memory_now is) = turns_as _ a new is.only.phase tt

pub steps_turn : (a b : FleetWorld) (runs : Runs) (most : ℕ) → IsFleetOpened a runs most → FleetSteps a b → TurnsAt b.phase a b
steps_turn a b runs most is nothing = turns_as opened a a is.phase (refl, let none = ap (λ (n : Shared). n.ignored) is.notes in omega (arith, none))
steps_turn a b runs most is (and_then {mid} steps step) = step_turns a mid b (steps_turn a mid runs most is steps) step
