-- What is known of each run while a fleet goes on, and of its clock.
use Rattle.std.proofs.Common.{◌≡◌, ◌⊎◌, inl, inr, ℕ, ◌≤◌, Bool, true, false, [], List, refl, sym, ◌∙◌, subst, ap, arith}
use Rattle.std.specs.Prelude.{Some, None, slice_get, slice_set, nat_lt, if◌then◌else◌}
use Rattle.run_records.specs.Ranges.{last_moment}
use Rattle.run_records.specs.declared.record.Record.{Record}
use Rattle.flow_core.specs.declared.flow_errors.LimitKind.TheVariants as limit
use Rattle.flow_core_rules.specs.Changes.{outcome}
use Rattle.flow_core_rules.specs.State.{Shown}
use Rattle.flow_core.specs.Views.{blank_shown}
use Rattle.flow_engine_history.specs.Histories.{IsHistory, IsSoFar}
use Rattle.flow_engine_history.specs.HistoryView.{HistoryView}
use Rattle.flow_engine.specs.EngineView.{EngineView}
use Rattle.flow_laws.proofs.Basics.{same_some}
use Rattle.flow_world_steps.specs.Appends.{Tries}
use Rattle.flow_world_steps.specs.Appends.Tries.{done, failed, limited}
use Rattle.flow_world_steps.specs.Worlds.{IsGoing, Notes, World, past, refused, rests, waits}
use Rattle.flow_world_steps.proofs.Failing.{fails_notes}
use Rattle.flow_world_steps.proofs.Filters.{get_set}
use Rattle.flow_fleet_steps.specs.Openings.{IsFleetOpened, Runs}
use Rattle.flow_fleet_steps.specs.Steps.{FleetStep, FleetSteps, GoesTowards}
use Rattle.flow_fleet_steps.specs.Steps.FleetStep.{opens_clock, finds_run_used, asks_clock, finds_late, begins, moves, expires, says, fails_to_say, puts_first, resends}
use Rattle.flow_fleet_steps.specs.Steps.FleetStep.{takes, finds_none, fails_to_take, drops, replies, ignores_reply, acts_on, repeats_reply, fails_to_act, wants_memory_now}
use Rattle.flow_fleet_steps.specs.Steps.FleetSteps.{nothing, and_then}
use Rattle.flow_fleet_steps.specs.Worlds.{EachRun, FleetWorld, Shared, part}
use Rattle.flow_fleet_steps.proofs.Spending.{fleet_step_going}
use Rattle.flow_fleet_sums.proofs.Adding.{step_adds}
use Rattle.flow_fleet_sums.proofs.StepKinds.{Kind, kind_of}
use Rattle.flow_fleet_sums.proofs.StepKinds.Kind.{filter, puts, quiet, tries}

-- ---- histories

-- a run that has not begun has not ended
not_over : (h : HistoryView) → IsHistory h → h.records ≡ [] → outcome h.seen.lists ≡ None
not_over h is none =
    let blank : h.seen ≡ blank_shown h.seen.given h.seen.run = subst (λ (l : List Record). IsSoFar l h.seen) none is.so_far in
    ap (λ (s : Shown). outcome s.lists) blank

abbrev pub AreHistories : FleetWorld → Type 0
AreHistories w = EachRun w.engines (λ place v. IsHistory v.history)

-- one run has another engine now
set_history : (old new : FleetWorld) (place : ℕ) (w : EngineView) → new.engines ≡ slice_set old.engines place w → IsHistory w.history → AreHistories old → AreHistories new
set_history old new place w engines is were k x there = elim (get_set old.engines place k w x (subst (λ (l : List EngineView). slice_get l k ≡ Some x) engines there)) [
  | inl here ↦ subst (λ (y : EngineView). IsHistory y.history) here.1 is
  | inr other ↦ were k x other.1
]

same_histories : (old new : FleetWorld) → new.engines ≡ old.engines → AreHistories old → AreHistories new
same_histories old new engines were = subst (λ (l : List EngineView). EachRun l (λ place v. IsHistory v.history)) (sym engines) were

tried_history : (IsNext : Record → Type 0) (old new : World) → Tries IsNext old new → IsHistory old.engine.history → IsHistory new.engine.history
tried_history IsNext old new (done is) was = is.engine.history
tried_history IsNext old new (failed is) was = is.engine.history
tried_history IsNext old new (limited what is) was = subst IsHistory (sym is.refuses.0.1) was

kind_histories : (old new : FleetWorld) → Kind old new → AreHistories old → AreHistories new
kind_histories old new (tries place v w own IsNext is try) were =
    set_history old new place w is.engines (tried_history IsNext (part place v (old.own place) old) (part place w own new) try (were place v is.there)) were
kind_histories old new (puts place issue v w own is put) were = set_history old new place w is.engines put.engine.history were
kind_histories old new (filter v is did) were = same_histories old new is.engines were
kind_histories old new (quiet is) were = same_histories old new is.sides.engines were

pub are_histories : (a b : FleetWorld) (runs : Runs) (most : ℕ) → IsFleetOpened a runs most → FleetSteps a b → AreHistories b
are_histories a b runs most first nothing = λ place v there. (first.stands place v there).engine.history
are_histories a b runs most first (and_then {mid} steps step) = kind_histories mid b (kind_of mid b step) (are_histories a mid runs most first steps)

pub fleet_histories : (a b : FleetWorld) (runs : Runs) (most : ℕ) → IsFleetOpened a runs most → FleetSteps a b
    → EachRun b.engines (λ place v. v.history.records ≡ [] → outcome v.history.seen.lists ≡ None)
fleet_histories a b runs most first steps place v there = not_over v.history (are_histories a b runs most first steps place v there)

-- ---- the clock

-- the clock came to the moment that it was asked for
abbrev pub HasCaughtUp : FleetWorld → Type 0
HasCaughtUp w = (moment : ℕ) → w.notes.asked ≡ Some moment → moment ≤ w.site.clock.now

-- it was asked for nothing, or it answered
still_up : (old new : FleetWorld) → new.notes.asked ≡ old.notes.asked → old.site.clock.now ≤ new.site.clock.now → HasCaughtUp old → HasCaughtUp new
still_up old new same later was moment e = let up = was moment (sym same ∙ e) in omega (arith, up, later)

-- where the fleet goes on, the clock answered no earlier moment
reached : (moment answer : ℕ) (old new : FleetWorld) → GoesTowards moment answer old new → IsGoing new.phase → HasCaughtUp new
reached moment answer old new is going other e =
    let same : moment ≡ other = same_some (sym (ap (λ (n : Shared). n.asked) is.notes) ∙ e) in
    let far = by (nat_lt last_moment answer) (nat_lt answer moment) refl (subst IsGoing is.phase going) in
    let now = is.reaches.now in
    omega (arith, same, far, now)
  where
    no_less : (m n : ℕ) → nat_lt m n ≡ false → n ≤ m
    no_less m n e = grind (arith, e)

    by : (p q : Bool) → nat_lt answer moment ≡ q → IsGoing (if p then refused (past limit.Moment) false else if q then waits moment else rests) → moment ≤ answer
    by true q e g = absurd g
    by false true e g = absurd g
    by false false e g = no_less answer moment e

tried_asked : (IsNext : Record → Type 0) (old new : World) → Tries IsNext old new → new.notes.asked ≡ old.notes.asked
tried_asked IsNext old new (done is) = ap (λ (n : Notes). n.asked) is.notes
tried_asked IsNext old new (failed is) = ap (λ (n : Notes). n.asked) is.notes
tried_asked IsNext old new (limited what is) = ap (λ (n : Notes). n.asked) is.notes

same_asked : (old new : FleetWorld) → new.notes ≡ old.notes → new.notes.asked ≡ old.notes.asked
same_asked old new notes = ap (λ (n : Shared). n.asked) notes

-- the clock was asked, and answered; or it was not asked
step_asked : (old new : FleetWorld) → FleetStep old new → IsGoing new.phase → HasCaughtUp new ⊎ (new.notes.asked ≡ old.notes.asked)
step_asked old new (opens_clock answer is) going = inl (reached _ answer old new is.goes going)
step_asked old new (asks_clock moment answer is) going = inl (reached moment answer old new is.goes going)
step_asked old new (finds_run_used place agent is) going = inr (same_asked old new is.only.notes)
step_asked old new (finds_late moment is) going = inr (same_asked old new is.only.notes)
step_asked old new (begins place is) going = inr (tried_asked _ _ _ is.does.does.tries)
step_asked old new (moves place is) going = inr (tried_asked _ _ _ is.does.does.tries)
step_asked old new (expires place issue is) going = inr (tried_asked _ _ _ is.does.does.tries)
step_asked old new (says place v bytes is) going = inr (same_asked old new is.speaks.notes)
step_asked old new (fails_to_say place v bytes is) going = inr (same_asked old new is.speaks.notes)
step_asked old new (puts_first place issue is) going = inr (ap (λ (n : Notes). n.asked) is.does.does.puts.notes)
step_asked old new (resends place issue is) going = inr (ap (λ (n : Notes). n.asked) is.does.does.puts.notes)
step_asked old new (takes parcel is) going = inr (same_asked old new is.notes)
step_asked old new (finds_none is) going = inr (same_asked old new is.notes)
step_asked old new (fails_to_take is) going = inr (same_asked old new is.notes)
step_asked old new (drops beat parcel is) going = inr (ap (λ (n : Shared). n.asked) is.ignores.notes)
step_asked old new (replies beat parcel place is) going = inr (tried_asked _ _ _ is.does.does.tries)
step_asked old new (ignores_reply beat parcel is) going = inr (ap (λ (n : Shared). n.asked) is.ignores.notes)
step_asked old new (acts_on beat parcel v w is) going = inr (ap (λ (n : Notes). n.asked) is.does.notes)
step_asked old new (repeats_reply beat parcel v w is) going = inr (ap (λ (n : Notes). n.asked) is.does.ignores.notes)
step_asked old new (fails_to_act beat parcel v w error cause is) going = inr (ap (λ (n : Notes). n.asked) (fails_notes error parcel v _ _ is.does.notes))
step_asked old new (wants_memory_now is) going = inr (same_asked old new is.only.notes)

pub fleet_caught_up : (a b : FleetWorld) (runs : Runs) (most : ℕ) → IsFleetOpened a runs most → FleetSteps a b → IsGoing b.phase → HasCaughtUp b
fleet_caught_up a b runs most first nothing going = λ moment e. absurd (not moment (sym (ap (λ (n : Shared). n.asked) first.notes) ∙ e))
  where
    not : (moment : ℕ) → None ≡ Some moment → ⊥
    not moment e = cc
fleet_caught_up a b runs most first (and_then {mid} steps step) going = elim (step_asked mid b step going) [
  | inl up ↦ up
  | inr same ↦ still_up mid b same (step_adds mid b step).later (fleet_caught_up a mid runs most first steps (fleet_step_going mid b step))
]
