-- While no parcel is lost, no issue of any run of a fleet expires.
use Rattle.std.proofs.Common.{◌≡◌, ℕ, ◌≤◌, Bool, true, false, List, [], length, sym, ◌∙◌, subst, ap, arith}
use Rattle.std.specs.Prelude.{Option, Some, IfSome, IsSome, slice_get, nat_lt, if◌then◌else◌}
use Rattle.cacao_site.specs.Counts.{DidNotRise}
use Rattle.cacao_site.specs.View.{LinkView, SiteView}
use Rattle.cacao_site.specs.declared.parcel.Parcel.{Parcel}
use Rattle.run_records.specs.Ranges.{last_moment}
use Rattle.run_records.specs.declared.record.Record.{Record}
use Rattle.flow_core.specs.declared.flow_errors.LimitKind.TheVariants as limit
use Rattle.flow_engine.specs.EngineView.{EngineView}
use Rattle.flow_engine.specs.OpenIssues.{OpenIssues, puts_of}
use Rattle.slpf_actuator.specs.ActuatorView.{ActuatorView}
use Rattle.flow_world_steps.specs.Appends.{Tries}
use Rattle.flow_world_steps.specs.Appends.Tries.{done, failed, limited}
use Rattle.flow_world_steps.specs.Steps.{after_reach}
use Rattle.flow_world_steps.specs.Steps.Step.{begins as one_begins, moves as one_moves, expires as one_expires, puts_first as one_puts_first, resends as one_resends, replies as one_replies}
use Rattle.flow_world_steps.specs.Steps.Step.{acts_on as one_acts_on, repeats_reply as one_repeats, fails_to_act as one_fails_to_act}
use Rattle.flow_world_steps.specs.Steps.Steps.{nothing as no_step, and_then as then_step}
use Rattle.flow_world_steps.specs.Worlds.{Cause, IsGoing, Phase, World, holds, looked, opened, owes, past, refused, rests, waits}
use Rattle.flow_world_steps.proofs.Beside.{steps_have_all}
use Rattle.flow_world_steps.proofs.Complete.{step_told}
use Rattle.flow_world_steps.proofs.Issues.{below}
use Rattle.flow_world_steps.proofs.Sites.{some_lost, some_more, some_same}
use Rattle.flow_world_steps.proofs.Waiting.{has_put, nothing_pending, was_pending}
use Rattle.flow_fleet_laws.specs.Fleets.{AreRuns, IsAt}
use Rattle.flow_fleet_laws.specs.Speeches.Form.{with_numbers}
use Rattle.flow_fleet_steps.specs.Openings.{IsFleetOpened, Runs, numbers}
use Rattle.flow_fleet_steps.specs.Steps.{FleetStep, FleetSteps}
use Rattle.flow_fleet_steps.specs.Steps.FleetStep.{opens_clock, finds_run_used, asks_clock, finds_late, begins, moves, expires, says, fails_to_say, puts_first, resends}
use Rattle.flow_fleet_steps.specs.Steps.FleetStep.{takes, finds_none, fails_to_take, drops, replies, ignores_reply, acts_on, repeats_reply, fails_to_act, wants_memory_now}
use Rattle.flow_fleet_steps.specs.Steps.FleetSteps.{nothing, and_then}
use Rattle.flow_fleet_steps.specs.Worlds.{FleetWorld, part}
use Rattle.flow_fleet_steps.proofs.Numbers.{at_place, opened_for, run_number, runs_of}
use Rattle.flow_fleet_sums.proofs.Adding.{fleet_steps_add, there_of}
use Rattle.flow_fleet_sums.proofs.Puts.{fleet_steps_lose}
use Rattle.flow_fleet_sums.proofs.StepKinds.{Kind, kind_of}
use Rattle.flow_fleet_sums.proofs.StepKinds.Kind.{filter, puts, quiet, tries}
use Rattle.flow_fleet_runs.specs.Complete.{AreUnderWay, EachFleetUnderWay, LostNothing, NoFleetExpiry}
use Rattle.flow_fleet_runs.proofs.UnderWay.{AreApart, fleet_step_waits}

-- ---- all filters stand

kind_has_all : (old new : FleetWorld) → Kind old new → length old.filters ≡ 16 → length new.filters ≡ 16
kind_has_all old new (tries place v w own IsNext is try) all = steps_have_all (part place v (old.own place) old) (part place w own new) all (then_step no_step is.step)
kind_has_all old new (puts place issue v w own is put) all = steps_have_all (part place v (old.own place) old) (part place w own new) all (then_step no_step is.step)
kind_has_all old new (filter v is did) all = steps_have_all (part 0 v (old.own 0) old) (part 0 v (old.own 0) new) all (then_step no_step is.step)
kind_has_all old new (quiet is) all = ap (λ (l : List ActuatorView). length l) is.sides.filters ∙ all

pub fleet_has_all : (a b : FleetWorld) → length a.filters ≡ 16 → FleetSteps a b → length b.filters ≡ 16
fleet_has_all a b all nothing = all
fleet_has_all a b all (and_then {mid} steps step) = kind_has_all mid b (kind_of mid b step) (fleet_has_all a mid all steps)

-- ---- each run has a number of its own

-- the run at a place is the one that was opened there
pub run_at : (a b : FleetWorld) (runs : Runs) (most : ℕ) → IsFleetOpened a runs most → FleetSteps a b → (place : ℕ) (w : EngineView) → slice_get b.engines place ≡ Some w
    → IsAt (numbers runs) place w.history.seen.run
run_at a b runs most first steps place w there =
    let adds = fleet_steps_add a b steps in
    let was = there_of a.engines place (let lt = below b.engines place w there in let many = adds.many in omega (arith, lt, many)) in
    let same = (adds.each place was.0 w was.1 there).run in
    let at : IsAt (runs_of a.engines) place (run_number was.0) = at_place a.engines place was.0 was.1 in
    subst (λ (l : List ℕ). IsAt l place w.history.seen.run) (opened_for runs a.engines first.many first.of_runs) (at ∙ ap Some (sym same))

are_apart : (a b : FleetWorld) (runs : Runs) (most : ℕ) → AreRuns with_numbers (numbers runs) → IsFleetOpened a runs most → FleetSteps a b → AreApart b
are_apart a b runs most are first steps place other v x there here same =
    are.once place other v.history.seen.run (run_at a b runs most first steps place v there)
    (subst (λ (n : ℕ). IsAt (numbers runs) other n) (sym same) (run_at a b runs most first steps other x here))

-- ---- what is under way

still_parts : (a mid b : ℕ) → a ≤ mid → mid ≤ b → DidNotRise a b → DidNotRise a mid × DidNotRise mid b
still_parts a mid b le le' is = ((omega (arith, le, le', is.0), is.1), (omega (arith, le, le', is.0), omega (arith, le, le', is.0, is.1)))

-- nothing was lost up to a world before, nor behind it
pub lost_before : (runs : Runs) (most : ℕ) (a mid b : FleetWorld) → LostNothing runs most a b → FleetSteps a mid → FleetStep mid b
    → LostNothing runs most a mid × DidNotRise mid.site.counts.mishaps b.site.counts.mishaps
lost_before runs most a mid b lost steps step =
    let one = (fleet_steps_lose a mid steps).later in
    let two = (fleet_steps_lose mid b (and_then nothing step)).later in
    let parts = still_parts a.site.counts.mishaps mid.site.counts.mishaps b.site.counts.mishaps one two lost.still in
    (record { are = lost.are; begins = lost.begins; steps = steps; still = parts.0 }, parts.1)

under_way : (a b : FleetWorld) (runs : Runs) (most : ℕ) → (steps : FleetSteps a b) → LostNothing runs most a b → AreUnderWay b
under_way a b runs most nothing lost = λ place v there.
    record { each = λ g issue put. absurd (put (ap (λ (o : OpenIssues). puts_of o issue) (lost.begins.no_puts place v there))) }
under_way a b runs most (and_then {mid} steps step) lost =
    let parts = lost_before runs most a mid b lost steps step in
    fleet_step_waits mid b (fleet_has_all a mid lost.begins.filters.all steps) (are_apart a mid runs most lost.are lost.begins steps) parts.1
    (under_way a mid runs most steps parts.0) step

pub fleets_under_way : EachFleetUnderWay
fleets_under_way a b runs most lost = under_way a b runs most lost.steps lost

-- ---- pending parcels stay told

link_same : (old new : SiteView) → new.link ≡ old.link → IsSome old.link.pending → IsSome new.link.pending
link_same old new e is = some_same old.link.pending new.link.pending (ap (λ (l : LinkView). l.pending) e) is

site_same : (old new : SiteView) → new ≡ old → IsSome old.link.pending → IsSome new.link.pending
site_same old new e is = link_same old new (ap (λ (s : SiteView). s.link) e) is

fleet_step_told : (old new : FleetWorld) → FleetStep old new → IsSome old.site.link.pending → IsSome new.site.link.pending
fleet_step_told old new (opens_clock answer is) told = some_more old.site.link.pending new.site.link.pending _ is.goes.reaches.pending.1 told
fleet_step_told old new (finds_run_used place agent is) told = site_same old.site new.site is.only.site told
fleet_step_told old new (asks_clock moment answer is) told = some_more old.site.link.pending new.site.link.pending _ is.goes.reaches.pending.1 told
fleet_step_told old new (finds_late moment is) told = site_same old.site new.site is.only.site told
fleet_step_told old new (begins place is) told = step_told _ _ (one_begins is.does.does) told
fleet_step_told old new (moves place is) told = step_told _ _ (one_moves is.does.does) told
fleet_step_told old new (expires place issue is) told = step_told _ _ (one_expires issue is.does.does) told
fleet_step_told old new (says place v bytes is) told = some_same old.site.link.pending new.site.link.pending is.speaks.only.pending told
fleet_step_told old new (fails_to_say place v bytes is) told = some_same old.site.link.pending new.site.link.pending is.speaks.only.pending told
fleet_step_told old new (puts_first place issue is) told = step_told _ _ (one_puts_first issue is.does.does) told
fleet_step_told old new (resends place issue is) told = step_told _ _ (one_resends issue is.does.does) told
fleet_step_told old new (takes parcel is) told = some_lost old.site.link.pending new.site.link.pending parcel is.some.pending told
fleet_step_told old new (finds_none is) told = some_same old.site.link.pending new.site.link.pending is.none.pending told
fleet_step_told old new (fails_to_take is) told = link_same old.site new.site is.link told
fleet_step_told old new (drops beat parcel is) told = site_same old.site new.site is.site told
fleet_step_told old new (replies beat parcel place is) told = step_told _ _ (one_replies beat parcel is.does.does) told
fleet_step_told old new (ignores_reply beat parcel is) told = site_same old.site new.site is.site told
fleet_step_told old new (acts_on beat parcel v w is) told = step_told _ _ (one_acts_on beat parcel v w is.does) told
fleet_step_told old new (repeats_reply beat parcel v w is) told = step_told _ _ (one_repeats beat parcel v w is.does) told
fleet_step_told old new (fails_to_act beat parcel v w error cause is) told = step_told _ _ (one_fails_to_act beat parcel v w error cause is.does) told
fleet_step_told old new (wants_memory_now is) told = site_same old.site new.site is.only.site told

pub fleet_steps_told : (a b : FleetWorld) → FleetSteps a b → IsSome a.site.link.pending → IsSome b.site.link.pending
fleet_steps_told a b nothing told = told
fleet_steps_told a b (and_then {mid} steps step) told = fleet_step_told mid b step (fleet_steps_told a mid steps told)

-- ---- where a take found none, none is pending

abbrev NonePending : FleetWorld → Type 0
NonePending w = IfSome w.site.link.pending (λ pending. pending ≡ [])

not_looked : (P : Type 0) (p q : Phase) → (q ≡ looked → ⊥) → p ≡ q → p ≡ looked → P
not_looked P p q not e f = absurd (not (sym e ∙ f))

opened_not : opened ≡ looked → ⊥
opened_not e = cc

rests_not : rests ≡ looked → ⊥
rests_not e = cc

owes_not : owes ≡ looked → ⊥
owes_not e = cc

holds_not : (beat : ℕ) (parcel : Parcel) → holds beat parcel ≡ looked → ⊥
holds_not beat parcel e = cc

refused_not : (cause : Cause) (lacks : Bool) → refused cause lacks ≡ looked → ⊥
refused_not cause lacks e = cc

reached_not : (moment answer : ℕ) → after_reach moment answer ≡ looked → ⊥
reached_not moment answer = by (nat_lt last_moment answer) (nat_lt answer moment)
  where
    by : (p q : Bool) → (if p then refused (past limit.Moment) false else if q then waits moment else rests) ≡ looked → ⊥
    by true q e = cc
    by false true e = cc
    by false false e = cc

tried_not : (P : Type 0) (IsNext : Record → Type 0) (old new : World) → Tries IsNext old new → new.phase ≡ looked → P
tried_not P IsNext old new (done is) = not_looked P new.phase owes owes_not is.phase
tried_not P IsNext old new (failed is) = not_looked P new.phase _ (refused_not _ _) is.phase
tried_not P IsNext old new (limited what is) = not_looked P new.phase _ (refused_not _ _) is.phase

fleet_step_looks : (old new : FleetWorld) → FleetStep old new → new.phase ≡ looked → NonePending new
fleet_step_looks old new (opens_clock answer is) = not_looked _ new.phase _ (reached_not _ answer) is.goes.phase
fleet_step_looks old new (finds_run_used place agent is) = not_looked _ new.phase _ (refused_not _ _) is.only.phase
fleet_step_looks old new (asks_clock moment answer is) = not_looked _ new.phase _ (reached_not moment answer) is.goes.phase
fleet_step_looks old new (finds_late moment is) = not_looked _ new.phase _ (refused_not _ _) is.only.phase
fleet_step_looks old new (begins place is) = tried_not _ _ _ _ is.does.does.tries
fleet_step_looks old new (moves place is) = tried_not _ _ _ _ is.does.does.tries
fleet_step_looks old new (expires place issue is) = tried_not _ _ _ _ is.does.does.tries
fleet_step_looks old new (says place v bytes is) = not_looked _ new.phase rests rests_not is.phase
fleet_step_looks old new (fails_to_say place v bytes is) = not_looked _ new.phase _ (refused_not _ _) is.phase
fleet_step_looks old new (puts_first place issue is) = not_looked _ new.phase rests rests_not is.does.does.puts.phase
fleet_step_looks old new (resends place issue is) = not_looked _ new.phase rests rests_not is.does.does.puts.phase
fleet_step_looks old new (takes parcel is) = not_looked _ new.phase _ (holds_not new.site.disk.beat parcel) is.phase
fleet_step_looks old new (finds_none is) = λ e. subst (λ (o : Option (List Parcel)). IfSome o (λ pending. pending ≡ [])) (sym is.none.pending) is.none.none
fleet_step_looks old new (fails_to_take is) = not_looked _ new.phase _ (refused_not _ _) is.phase
fleet_step_looks old new (drops beat parcel is) = not_looked _ new.phase rests rests_not is.ignores.phase
fleet_step_looks old new (replies beat parcel place is) = tried_not _ _ _ _ is.does.does.tries
fleet_step_looks old new (ignores_reply beat parcel is) = not_looked _ new.phase rests rests_not is.ignores.phase
fleet_step_looks old new (acts_on beat parcel v w is) = not_looked _ new.phase rests rests_not is.does.phase
fleet_step_looks old new (repeats_reply beat parcel v w is) = not_looked _ new.phase rests rests_not is.does.ignores.phase
fleet_step_looks old new (fails_to_act beat parcel v w error cause is) = not_looked _ new.phase _ (refused_not _ _) is.does.phase
fleet_step_looks old new (wants_memory_now is) = not_looked _ new.phase _ (refused_not _ _) is.only.phase

fleet_looks : (a b : FleetWorld) → a.phase ≡ opened → FleetSteps a b → b.phase ≡ looked → NonePending b
fleet_looks a b first nothing = not_looked _ a.phase opened opened_not first
fleet_looks a b first (and_then {mid} steps step) = fleet_step_looks mid b step

-- ---- so none expires

pub no_fleet_expiry : NoFleetExpiry
no_fleet_expiry a old new runs most lost told place issue is =
    let phase = is.idle.has_looked.phase in
    let d = is.does in
    let w = part place d.v (old.own place) old in
    let under = fleets_under_way a old runs most lost place d.v d.there in
    let put = has_put d.v issue old.site.clock.now d.does.overdue.first.0 in
    nothing_pending d.v.history issue old.site.link.pending told (fleet_looks a old lost.begins.phase lost.steps phase)
    (was_pending w (free phase) (subst IsGoing (sym phase) tt) under issue put)
  where
    not_held : (beat : ℕ) (parcel : Parcel) → looked ≡ holds beat parcel → ⊥
    not_held beat parcel f = cc

    free : old.phase ≡ looked → (beat : ℕ) (parcel : Parcel) → old.phase ≡ holds beat parcel → ⊥
    free e beat parcel h = not_held beat parcel (sym e ∙ h)
