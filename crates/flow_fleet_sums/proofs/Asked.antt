-- What a fleet asks of the clock.
use Rattle.std.proofs.Common.{◌≡◌, inl, inr, ℕ, ◌≤◌, Bool, true, false, sym, ◌∙◌, subst, ap, arith}
use Rattle.std.specs.Prelude.{max, nat_lt, if◌then◌else◌}
use Rattle.std.proofs.lemmas.Bool.{cases_lt}
use Rattle.cacao_site.specs.View.{ClockView, SiteView}
use Rattle.cacao_site.specs.declared.parcel.Parcel.{Parcel}
use Rattle.run_records.specs.Ranges.{last_moment}
use Rattle.run_records.specs.declared.record.Record.{Record}
use Rattle.flow_core.specs.declared.flow_errors.LimitKind.TheVariants as limit
use Rattle.flow_world_steps.specs.Appends.{Tries}
use Rattle.flow_world_steps.specs.Appends.Tries.{done, failed, limited}
use Rattle.flow_world_steps.specs.Steps.{after_reach}
use Rattle.flow_world_steps.specs.Worlds.{Cause, Phase, World, holds, looked, opened, owes, past, refused, rests, waits}
use Rattle.flow_world_steps.proofs.Adding.{fails_clock}
use Rattle.flow_fleet_steps.specs.Steps.{FleetStep, FleetSteps}
use Rattle.flow_fleet_steps.specs.Steps.FleetStep.{opens_clock, finds_run_used, asks_clock, finds_late, begins, moves, expires, says, fails_to_say, puts_first, resends}
use Rattle.flow_fleet_steps.specs.Steps.FleetStep.{takes, finds_none, fails_to_take, drops, replies, ignores_reply, acts_on, repeats_reply, fails_to_act, wants_memory_now}
use Rattle.flow_fleet_steps.specs.Steps.FleetSteps.{nothing, and_then}
use Rattle.flow_fleet_steps.specs.Turns.{ComesNext, last_of}
use Rattle.flow_fleet_steps.specs.Worlds.{FleetWorld}
use Rattle.flow_fleet_sums.specs.Asks.{EachFleetAsks, FleetAsksOnly}

-- ---- no call leads back to an opening

not_opened : (p q : Phase) → (q ≡ opened → ⊥) → p ≡ q → p ≡ opened → ⊥
not_opened p q not e f = not (sym e ∙ f)

rests_not : rests ≡ opened → ⊥
rests_not e = cc

looked_not : looked ≡ opened → ⊥
looked_not e = cc

owes_not : owes ≡ opened → ⊥
owes_not e = cc

holds_not : (beat : ℕ) (parcel : Parcel) → holds beat parcel ≡ opened → ⊥
holds_not beat parcel e = cc

waits_not : (n : ℕ) → waits n ≡ opened → ⊥
waits_not n e = cc

refused_not : (cause : Cause) (lacks : Bool) → refused cause lacks ≡ opened → ⊥
refused_not cause lacks e = cc

reached_not : (moment answer : ℕ) → after_reach moment answer ≡ opened → ⊥
reached_not moment answer = by (nat_lt last_moment answer) (nat_lt answer moment)
  where
    by : (a b : Bool) → (if a then refused (past limit.Moment) false else if b then waits moment else rests) ≡ opened → ⊥
    by true b = refused_not _ _
    by false true = waits_not moment
    by false false = rests_not

tried_not : (IsNext : Record → Type 0) (old new : World) → Tries IsNext old new → new.phase ≡ opened → ⊥
tried_not IsNext old new (done is) = not_opened new.phase owes owes_not is.phase
tried_not IsNext old new (failed is) = not_opened new.phase _ (refused_not _ _) is.phase
tried_not IsNext old new (limited what is) = not_opened new.phase _ (refused_not _ _) is.phase

step_not_opened : (old new : FleetWorld) → FleetStep old new → new.phase ≡ opened → ⊥
step_not_opened old new (opens_clock answer is) = not_opened new.phase _ (reached_not _ answer) is.goes.phase
step_not_opened old new (asks_clock moment answer is) = not_opened new.phase _ (reached_not moment answer) is.goes.phase
step_not_opened old new (finds_run_used place agent is) = not_opened new.phase _ (refused_not _ _) is.only.phase
step_not_opened old new (finds_late moment is) = not_opened new.phase _ (refused_not _ _) is.only.phase
step_not_opened old new (begins place is) = tried_not _ _ _ is.does.does.tries
step_not_opened old new (moves place is) = tried_not _ _ _ is.does.does.tries
step_not_opened old new (expires place issue is) = tried_not _ _ _ is.does.does.tries
step_not_opened old new (says place v bytes is) = not_opened new.phase rests rests_not is.phase
step_not_opened old new (fails_to_say place v bytes is) = not_opened new.phase _ (refused_not _ _) is.phase
step_not_opened old new (puts_first place issue is) = not_opened new.phase rests rests_not is.does.does.puts.phase
step_not_opened old new (resends place issue is) = not_opened new.phase rests rests_not is.does.does.puts.phase
step_not_opened old new (takes parcel is) = not_opened new.phase _ (holds_not _ _) is.phase
step_not_opened old new (finds_none is) = not_opened new.phase looked looked_not is.phase
step_not_opened old new (fails_to_take is) = not_opened new.phase _ (refused_not _ _) is.phase
step_not_opened old new (drops beat parcel is) = not_opened new.phase rests rests_not is.ignores.phase
step_not_opened old new (replies beat parcel place is) = tried_not _ _ _ is.does.does.tries
step_not_opened old new (ignores_reply beat parcel is) = not_opened new.phase rests rests_not is.ignores.phase
step_not_opened old new (acts_on beat parcel v w is) = not_opened new.phase rests rests_not is.does.phase
step_not_opened old new (repeats_reply beat parcel v w is) = not_opened new.phase rests rests_not is.does.ignores.phase
step_not_opened old new (fails_to_act beat parcel v w error cause is) = not_opened new.phase _ (refused_not _ _) is.does.phase
step_not_opened old new (wants_memory_now is) = not_opened new.phase _ (refused_not _ _) is.only.phase

-- ---- the greatest moment asked for

still : (a old new : FleetWorld) → FleetStep old new → FleetAsksOnly a old → new.site.clock.furthest ≡ old.site.clock.furthest → FleetAsksOnly a new
still a old new step (inl before) same = inl (omega (arith, before, same))
still a old new step (inr (inl first)) same = inr (inl (first.0, same ∙ first.1))
still a old new step (inr (inr next)) same = inr (inr (record {
  w = next.w;
  before = next.before;
  after = and_then next.after step;
  next = subst (λ (n : ℕ). ComesNext next.w n) (sym same) next.next;
  in_time = let most = next.in_time in omega (arith, same, most);
}))

furthest_of : (old new : SiteView) → new ≡ old → new.clock.furthest ≡ old.clock.furthest
furthest_of old new e = ap (λ (s : SiteView). s.clock.furthest) e

clock_of : (old new : ClockView) → new ≡ old → new.furthest ≡ old.furthest
clock_of old new e = ap (λ (c : ClockView). c.furthest) e

tried_same : (IsNext : Record → Type 0) (old new : World) → Tries IsNext old new → new.site.clock.furthest ≡ old.site.clock.furthest
tried_same IsNext old new (done is) = clock_of old.site.clock new.site.clock is.appends.adds.offers.file.rest.clock
tried_same IsNext old new (failed is) = clock_of old.site.clock new.site.clock is.refuses.0.0.file.rest.clock
tried_same IsNext old new (limited what is) = furthest_of old.site new.site is.refuses.0.2

-- an opening is the first call
opens_first : (a old new : FleetWorld) → FleetSteps a old → old.phase ≡ opened → new.site.clock.furthest ≡ max old.site.clock.furthest (last_of old.engines) → FleetAsksOnly a new
opens_first a old new nothing phase is = elim (cases_lt a.site.clock.furthest (last_of a.engines)) [
  | inl beyond ↦ inr (inl (phase, omega (arith, is, beyond)))
  | inr within ↦ inl (omega (arith, is, within))
]
opens_first a old new (and_then {mid} steps last) phase is = absurd (step_not_opened mid old last phase)

asks_next : (a old new : FleetWorld) (moment : ℕ) → FleetSteps a old → (step : FleetStep old new) → FleetAsksOnly a old → ComesNext old moment → moment ≤ last_moment
    → new.site.clock.furthest ≡ max old.site.clock.furthest moment → FleetAsksOnly a new
asks_next a old new moment steps step asks next in_time is = elim (cases_lt old.site.clock.furthest moment) [
  | inl beyond ↦
      let e : new.site.clock.furthest ≡ moment = omega (arith, is, beyond) in
      inr (inr (record { w = old; before = steps; after = and_then nothing step; next = subst (λ (n : ℕ). ComesNext old n) (sym e) next; in_time = omega (arith, e, in_time) }))
  | inr within ↦ still a old new step asks (omega (arith, is, within))
]

step_asks : (a old new : FleetWorld) → FleetSteps a old → FleetAsksOnly a old → FleetStep old new → FleetAsksOnly a new
step_asks a old new steps asks (opens_clock answer is) = opens_first a old new steps is.phase is.goes.reaches.furthest
step_asks a old new steps asks (asks_clock moment answer is) = asks_next a old new moment steps (asks_clock moment answer is) asks is.next is.in_time is.goes.reaches.furthest
step_asks a old new steps asks (finds_run_used place agent is) = still a old new (finds_run_used place agent is) asks (furthest_of old.site new.site is.only.site)
step_asks a old new steps asks (finds_late moment is) = still a old new (finds_late moment is) asks (furthest_of old.site new.site is.only.site)
step_asks a old new steps asks (begins place is) = still a old new (begins place is) asks (tried_same _ _ _ is.does.does.tries)
step_asks a old new steps asks (moves place is) = still a old new (moves place is) asks (tried_same _ _ _ is.does.does.tries)
step_asks a old new steps asks (expires place issue is) = still a old new (expires place issue is) asks (tried_same _ _ _ is.does.does.tries)
step_asks a old new steps asks (says place v bytes is) = still a old new (says place v bytes is) asks is.speaks.only.time.furthest
step_asks a old new steps asks (fails_to_say place v bytes is) = still a old new (fails_to_say place v bytes is) asks is.speaks.only.time.furthest
step_asks a old new steps asks (puts_first place issue is) = still a old new (puts_first place issue is) asks is.does.does.puts.sends.put.time.furthest
step_asks a old new steps asks (resends place issue is) = still a old new (resends place issue is) asks is.does.does.puts.sends.put.time.furthest
step_asks a old new steps asks (takes parcel is) = still a old new (takes parcel is) asks is.only.time.furthest
step_asks a old new steps asks (finds_none is) = still a old new (finds_none is) asks is.only.time.furthest
step_asks a old new steps asks (fails_to_take is) = still a old new (fails_to_take is) asks is.only.time.furthest
step_asks a old new steps asks (drops beat parcel is) = still a old new (drops beat parcel is) asks (furthest_of old.site new.site is.site)
step_asks a old new steps asks (replies beat parcel place is) = still a old new (replies beat parcel place is) asks (tried_same _ _ _ is.does.does.tries)
step_asks a old new steps asks (ignores_reply beat parcel is) = still a old new (ignores_reply beat parcel is) asks (furthest_of old.site new.site is.site)
step_asks a old new steps asks (acts_on beat parcel v w is) =
    still a old new (acts_on beat parcel v w is) asks (is.does.acts.puts.time.furthest ∙ clock_of old.site.clock is.does.acts.between.clock is.does.acts.offers.adds.file.rest.clock)
step_asks a old new steps asks (repeats_reply beat parcel v w is) = still a old new (repeats_reply beat parcel v w is) asks is.does.repeats.puts.time.furthest
step_asks a old new steps asks (fails_to_act beat parcel v w error cause is) =
    still a old new (fails_to_act beat parcel v w error cause is) asks (clock_of old.site.clock new.site.clock (fails_clock v parcel old.site.clock.now _ _ error is.does.refuses.site))
step_asks a old new steps asks (wants_memory_now is) = still a old new (wants_memory_now is) asks (furthest_of old.site new.site is.only.site)

pub fleets_ask : EachFleetAsks
fleets_ask a b nothing = inl (omega arith)
fleets_ask a b (and_then {mid} steps step) = step_asks a mid b steps (fleets_ask a mid steps) step
