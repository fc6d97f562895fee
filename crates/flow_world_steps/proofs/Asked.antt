-- What is asked of the clock, and how many parcels changed nothing.
use Rattle.std.proofs.Common.{◌≡◌, inl, inr, ℕ, ◌+◌, ◌≤◌, ◌<◌, max, Bool, true, false, sym, ◌∙◌, subst, ap, arith}
use Rattle.std.specs.Prelude.{nat_lt, if◌then◌else◌}
use Rattle.std.proofs.lemmas.Bool.{cases_lt}
use Rattle.cacao_site.specs.View.{SiteView, ClockView}
use Rattle.run_records.specs.Ranges.{last_moment}
use Rattle.run_records.specs.declared.record.Record.{Record}
use Rattle.flow_engine.specs.LimitKind.TheVariants as limit
use Rattle.flow_world_steps.specs.Appends.{Tries}
use Rattle.flow_world_steps.specs.Appends.Tries.{done, failed, limited}
use Rattle.flow_world_steps.specs.Steps.{Step, Steps, after_reach}
use Rattle.flow_world_steps.specs.Steps.Step.{opens_clock, finds_run_used, asks_clock, finds_late, begins, moves, upgrades, tells, expires, says, fails_to_say}
use Rattle.flow_world_steps.specs.Steps.Step.{puts_first, resends, takes, finds_none, fails_to_take, drops, replies, ignores_reply, acts_on, repeats_reply, fails_to_act, wants_memory_now}
use Rattle.flow_world_steps.specs.Steps.Steps.{nothing, and_then}
use Rattle.flow_world_steps.specs.Sums.{AsksOnly, EachAsksOnly, IgnoresFew}
use Rattle.flow_world_steps.specs.Turns.{ComesNext, most_ignored}
use Rattle.flow_world_steps.specs.Worlds.{World, Phase, Cause, Notes, opened, rests, looked, owes, waits, refused, past}
use Rattle.flow_world_steps.proofs.Adding.{fails_clock}
use Rattle.flow_world_steps.proofs.Failing.{fails_notes}

-- ---- no step leads back to an opening

not_opened : (p q : Phase) → (q ≡ opened → ⊥) → p ≡ q → p ≡ opened → ⊥
not_opened p q not e f = not (sym e ∙ f)

reached_not : (p : Phase) (moment answer : ℕ) → p ≡ after_reach moment answer → p ≡ opened → ⊥
reached_not p moment answer e = by (nat_lt last_moment answer) (nat_lt answer moment) e
  where
    by : (a b : Bool) → p ≡ (if a then refused (past limit.Moment) false else if b then waits moment else rests) → p ≡ opened → ⊥
    by true b e f = let g = sym e ∙ f in cc
    by false true e f = let g = sym e ∙ f in cc
    by false false e f = let g = sym e ∙ f in cc

rests_not : rests ≡ opened → ⊥
rests_not e = cc

looked_not : looked ≡ opened → ⊥
looked_not e = cc

owes_not : owes ≡ opened → ⊥
owes_not e = cc

refused_not : (cause : Cause) (lacks : Bool) → refused cause lacks ≡ opened → ⊥
refused_not cause lacks e = cc

tried_not : (IsNext : Record → Type 0) (old new : World) → Tries IsNext old new → new.phase ≡ opened → ⊥
tried_not IsNext old new (done is) = not_opened new.phase owes owes_not is.phase
tried_not IsNext old new (failed is) = not_opened new.phase _ (refused_not _ _) is.phase
tried_not IsNext old new (limited what is) = not_opened new.phase _ (refused_not _ _) is.phase

pub step_not_opened : (old new : World) → Step old new → new.phase ≡ opened → ⊥
step_not_opened old new (opens_clock answer is) = reached_not new.phase _ answer is.goes.phase
step_not_opened old new (finds_run_used agent is) = not_opened new.phase _ (refused_not _ _) is.only.phase
step_not_opened old new (asks_clock moment answer is) = reached_not new.phase moment answer is.goes.phase
step_not_opened old new (finds_late moment is) = not_opened new.phase _ (refused_not _ _) is.only.phase
step_not_opened old new (begins is) = tried_not _ old new is.tries
step_not_opened old new (moves is) = tried_not _ old new is.tries
step_not_opened old new (upgrades issue told is) = tried_not _ old new is.tries
step_not_opened old new (tells issue told is) = tried_not _ old new is.tries
step_not_opened old new (expires issue is) = tried_not _ old new is.tries
step_not_opened old new (says bytes is) = not_opened new.phase rests rests_not is.phase
step_not_opened old new (fails_to_say bytes is) = not_opened new.phase _ (refused_not _ _) is.phase
step_not_opened old new (puts_first issue is) = not_opened new.phase rests rests_not is.puts.phase
step_not_opened old new (resends issue is) = not_opened new.phase rests rests_not is.puts.phase
step_not_opened old new (takes parcel is) = not_opened new.phase _ (λ e. cc) is.phase
step_not_opened old new (finds_none is) = not_opened new.phase looked looked_not is.phase
step_not_opened old new (fails_to_take is) = not_opened new.phase _ (refused_not _ _) is.phase
step_not_opened old new (drops beat parcel is) = not_opened new.phase rests rests_not is.ignores.phase
step_not_opened old new (replies beat parcel is) = tried_not _ old new is.tries
step_not_opened old new (ignores_reply beat parcel is) = not_opened new.phase rests rests_not is.ignores.phase
step_not_opened old new (acts_on beat parcel v w is) = not_opened new.phase rests rests_not is.phase
step_not_opened old new (repeats_reply beat parcel v w is) = not_opened new.phase rests rests_not is.ignores.phase
step_not_opened old new (fails_to_act beat parcel v w error cause is) = not_opened new.phase _ (refused_not _ _) is.phase
step_not_opened old new (wants_memory_now is) = not_opened new.phase _ (refused_not _ _) is.only.phase

-- ---- the greatest moment asked for

still : (a old new : World) → Steps a old → Step old new → AsksOnly a old → new.site.clock.furthest ≡ old.site.clock.furthest → AsksOnly a new
still a old new steps step (inl before) same = inl (omega (arith, before, same))
still a old new steps step (inr (inl first)) same = inr (inl (first.0, same ∙ first.1))
still a old new steps step (inr (inr next)) same = inr (inr (record {
  w = next.w;
  before = next.before;
  after = and_then next.after step;
  next = subst (λ (n : ℕ). ComesNext next.w n) (sym same) next.next;
  in_time = omega (arith, same, next.in_time);
}))

furthest_of : (old new : SiteView) → new ≡ old → new.clock.furthest ≡ old.clock.furthest
furthest_of old new e = ap (λ (s : SiteView). s.clock.furthest) e

clock_of : (old new : ClockView) → new ≡ old → new.furthest ≡ old.furthest
clock_of old new e = ap (λ (c : ClockView). c.furthest) e

tried_same : (IsNext : Record → Type 0) (old new : World) → Tries IsNext old new → new.site.clock.furthest ≡ old.site.clock.furthest
tried_same IsNext old new (done is) = clock_of old.site.clock new.site.clock is.appends.adds.offers.file.rest.clock
tried_same IsNext old new (failed is) = clock_of old.site.clock new.site.clock is.refuses.0.0.file.rest.clock
tried_same IsNext old new (limited what is) = furthest_of old.site new.site is.refuses.0.2

-- an opening is the first step
opens_first : (a old new : World) (answer : ℕ) → Steps a old → old.phase ≡ opened → (step : Step old new) → new.site.clock.furthest ≡ max old.site.clock.furthest old.engine.history.seen.moment → AsksOnly a new
opens_first a old new answer nothing phase step is = elim (cases_lt a.site.clock.furthest a.engine.history.seen.moment) [
  | inl beyond ↦ inr (inl (phase, omega (arith, is, beyond)))
  | inr within ↦ inl (omega (arith, is, within))
]
opens_first a old new answer (and_then {mid} steps last) phase step is = absurd (step_not_opened mid old last phase)

asks_next : (a old new : World) (moment : ℕ) → Steps a old → (step : Step old new) → AsksOnly a old → ComesNext old moment → moment ≤ last_moment
    → new.site.clock.furthest ≡ max old.site.clock.furthest moment → AsksOnly a new
asks_next a old new moment steps step asks next in_time is = elim (cases_lt old.site.clock.furthest moment) [
  | inl beyond ↦
      let e : new.site.clock.furthest ≡ moment = omega (arith, is, beyond) in
      inr (inr (record { w = old; before = steps; after = and_then nothing step; next = subst (λ (n : ℕ). ComesNext old n) (sym e) next; in_time = omega (arith, e, in_time) }))
  | inr within ↦ still a old new steps step asks (omega (arith, is, within))
]

pub step_asks : (a old new : World) → Steps a old → AsksOnly a old → Step old new → AsksOnly a new
step_asks a old new steps asks (opens_clock answer is) = opens_first a old new answer steps is.phase (opens_clock answer is) is.goes.reaches.furthest
step_asks a old new steps asks (finds_run_used agent is) = still a old new steps (finds_run_used agent is) asks (furthest_of old.site new.site is.only.site)
step_asks a old new steps asks (asks_clock moment answer is) = asks_next a old new moment steps (asks_clock moment answer is) asks is.next is.in_time is.goes.reaches.furthest
step_asks a old new steps asks (finds_late moment is) = still a old new steps (finds_late moment is) asks (furthest_of old.site new.site is.only.site)
step_asks a old new steps asks (begins is) = still a old new steps (begins is) asks (tried_same _ old new is.tries)
step_asks a old new steps asks (moves is) = still a old new steps (moves is) asks (tried_same _ old new is.tries)
step_asks a old new steps asks (upgrades issue told is) = still a old new steps (upgrades issue told is) asks (tried_same _ old new is.tries)
step_asks a old new steps asks (tells issue told is) = still a old new steps (tells issue told is) asks (tried_same _ old new is.tries)
step_asks a old new steps asks (expires issue is) = still a old new steps (expires issue is) asks (tried_same _ old new is.tries)
step_asks a old new steps asks (says bytes is) = still a old new steps (says bytes is) asks is.speaks.only.time.furthest
step_asks a old new steps asks (fails_to_say bytes is) = still a old new steps (fails_to_say bytes is) asks is.speaks.only.time.furthest
step_asks a old new steps asks (puts_first issue is) = still a old new steps (puts_first issue is) asks is.puts.sends.put.time.furthest
step_asks a old new steps asks (resends issue is) = still a old new steps (resends issue is) asks is.puts.sends.put.time.furthest
step_asks a old new steps asks (takes parcel is) = still a old new steps (takes parcel is) asks is.only.time.furthest
step_asks a old new steps asks (finds_none is) = still a old new steps (finds_none is) asks is.only.time.furthest
step_asks a old new steps asks (fails_to_take is) = still a old new steps (fails_to_take is) asks is.only.time.furthest
step_asks a old new steps asks (drops beat parcel is) = still a old new steps (drops beat parcel is) asks (furthest_of old.site new.site is.site)
step_asks a old new steps asks (replies beat parcel is) = still a old new steps (replies beat parcel is) asks (tried_same _ old new is.tries)
step_asks a old new steps asks (ignores_reply beat parcel is) = still a old new steps (ignores_reply beat parcel is) asks (furthest_of old.site new.site is.site)
step_asks a old new steps asks (acts_on beat parcel v w is) = still a old new steps (acts_on beat parcel v w is) asks (is.acts.puts.time.furthest ∙ clock_of old.site.clock is.acts.between.clock is.acts.offers.adds.file.rest.clock)
step_asks a old new steps asks (repeats_reply beat parcel v w is) = still a old new steps (repeats_reply beat parcel v w is) asks is.repeats.puts.time.furthest
step_asks a old new steps asks (fails_to_act beat parcel v w error cause is) = still a old new steps (fails_to_act beat parcel v w error cause is) asks (clock_of old.site.clock new.site.clock (fails_clock v parcel old.site.clock.now old.site new.site error is.refuses.site))
step_asks a old new steps asks (wants_memory_now is) = still a old new steps (wants_memory_now is) asks (furthest_of old.site new.site is.only.site)

pub steps_ask : EachAsksOnly
steps_ask a b nothing = inl (omega arith)
steps_ask a b (and_then {mid} steps step) = step_asks a mid b steps (steps_ask a mid steps) step

-- ---- parcels that changed nothing

same_ignored : (old new : World) → new.notes.ignored ≡ old.notes.ignored → old.notes.ignored ≤ most_ignored → new.notes.ignored ≤ most_ignored
same_ignored old new e few = omega (arith, e, few)

tried_ignored : (IsNext : Record → Type 0) (old new : World) → Tries IsNext old new → new.notes.ignored ≡ old.notes.ignored
tried_ignored IsNext old new (done is) = ap (λ (n : Notes). n.ignored) is.notes
tried_ignored IsNext old new (failed is) = ap (λ (n : Notes). n.ignored) is.notes
tried_ignored IsNext old new (limited what is) = ap (λ (n : Notes). n.ignored) is.notes

one_more : (old new : World) → old.notes.ignored < most_ignored → new.notes ≡ record old.notes { ignored = old.notes.ignored + 1 } → new.notes.ignored ≤ most_ignored
one_more old new calm e = let is : new.notes.ignored ≡ old.notes.ignored + 1 = ap (λ (n : Notes). n.ignored) e in omega (arith, is, calm)

pub step_ignores : (old new : World) → old.notes.ignored ≤ most_ignored → Step old new → new.notes.ignored ≤ most_ignored
step_ignores old new few (opens_clock answer is) = same_ignored old new (ap (λ (n : Notes). n.ignored) is.goes.notes) few
step_ignores old new few (finds_run_used agent is) = same_ignored old new (ap (λ (n : Notes). n.ignored) is.only.notes) few
step_ignores old new few (asks_clock moment answer is) = same_ignored old new (ap (λ (n : Notes). n.ignored) is.goes.notes) few
step_ignores old new few (finds_late moment is) = same_ignored old new (ap (λ (n : Notes). n.ignored) is.only.notes) few
step_ignores old new few (begins is) = same_ignored old new (tried_ignored _ old new is.tries) few
step_ignores old new few (moves is) = same_ignored old new (tried_ignored _ old new is.tries) few
step_ignores old new few (upgrades issue told is) = same_ignored old new (tried_ignored _ old new is.tries) few
step_ignores old new few (tells issue told is) = same_ignored old new (tried_ignored _ old new is.tries) few
step_ignores old new few (expires issue is) = same_ignored old new (tried_ignored _ old new is.tries) few
step_ignores old new few (says bytes is) = same_ignored old new (ap (λ (n : Notes). n.ignored) is.speaks.notes) few
step_ignores old new few (fails_to_say bytes is) = same_ignored old new (ap (λ (n : Notes). n.ignored) is.speaks.notes) few
step_ignores old new few (puts_first issue is) = same_ignored old new (ap (λ (n : Notes). n.ignored) is.puts.notes) few
step_ignores old new few (resends issue is) = same_ignored old new (ap (λ (n : Notes). n.ignored) is.puts.notes) few
step_ignores old new few (takes parcel is) = same_ignored old new (ap (λ (n : Notes). n.ignored) is.notes) few
step_ignores old new few (finds_none is) = same_ignored old new (ap (λ (n : Notes). n.ignored) is.notes) few
step_ignores old new few (fails_to_take is) = same_ignored old new (ap (λ (n : Notes). n.ignored) is.notes) few
step_ignores old new few (drops beat parcel is) = one_more old new is.ignores.calm is.ignores.notes
step_ignores old new few (replies beat parcel is) = same_ignored old new (tried_ignored _ old new is.tries) few
step_ignores old new few (ignores_reply beat parcel is) = one_more old new is.ignores.calm is.ignores.notes
step_ignores old new few (acts_on beat parcel v w is) = same_ignored old new (ap (λ (n : Notes). n.ignored) is.notes) few
step_ignores old new few (repeats_reply beat parcel v w is) = one_more old new is.ignores.calm is.ignores.notes
step_ignores old new few (fails_to_act beat parcel v w error cause is) = same_ignored old new (ap (λ (n : Notes). n.ignored) (fails_notes error parcel v old new is.notes)) few
step_ignores old new few (wants_memory_now is) = same_ignored old new (ap (λ (n : Notes). n.ignored) is.only.notes) few

pub steps_ignore_few : IgnoresFew
steps_ignore_few a b few nothing = few
steps_ignore_few a b few (and_then {mid} steps step) = step_ignores mid b (steps_ignore_few a mid few steps) step
