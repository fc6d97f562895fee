-- The clock is never before the last record, nor past the limit, once it was asked at the opening.
use Rattle.std.proofs.Common.{◌≡◌, ℕ, ◌≤◌, ◌&&◌, Bool, true, false, refl, sym, ◌∙◌, subst, ap, arith}
use Rattle.std.specs.Prelude.{nat_le, nat_lt, if◌then◌else◌}
use Rattle.std.proofs.lemmas.Bool.{false≢true}
use Rattle.cacao_site.specs.View.{ClockView, SiteView}
use Rattle.run_records.specs.Ranges.{last_moment}
use Rattle.run_records.specs.declared.record.Record.{Record}
use Rattle.flow_core_rules.specs.Changes.{is_in_time, moment_of}
use Rattle.flow_core_rules.specs.State.{Shown}
use Rattle.flow_engine.specs.LimitKind.TheVariants as limit
use Rattle.flow_engine.specs.HistoryView.{HistoryView}
use Rattle.flow_engine.specs.EngineCalls.{Appends}
use Rattle.flow_engine.specs.EngineView.{EngineView}
use Rattle.flow_world_steps.specs.Appends.{Tries}
use Rattle.flow_world_steps.specs.Appends.Tries.{done, failed, limited}
use Rattle.flow_world_steps.specs.Stands.{EachInTime, InTime}
use Rattle.flow_world_steps.specs.Steps.{GoesTowards, Step, after_reach}
use Rattle.flow_world_steps.specs.Steps.Step.{opens_clock, finds_run_used, asks_clock, finds_late, begins, moves, upgrades, tells, expires, says, fails_to_say}
use Rattle.flow_world_steps.specs.Steps.Step.{puts_first, resends, takes, finds_none, fails_to_take, drops, replies, ignores_reply, acts_on, repeats_reply, fails_to_act, wants_memory_now}
use Rattle.flow_world_steps.specs.Steps.Steps.{nothing, and_then}
use Rattle.flow_world_steps.specs.Worlds.{IsGoing, Phase, World, opened, rests, looked, owes, holds, waits, refused, past}
use Rattle.flow_world_steps.proofs.Adding.{begins_now, moves_now, replies_now}
use Rattle.flow_world_steps.proofs.Standing.{stopped}

-- ---- moments at which a record may come

le_true : (a b : ℕ) → a ≤ b → nat_le a b ≡ true
le_true a b h = grind arith

le_of : (a b : ℕ) → nat_le a b ≡ true → a ≤ b
le_of a b h = grind arith

both : (a b : Bool) → (a && b) ≡ true → (a ≡ true) × (b ≡ true)
both true true e = (refl, refl)
both true false e = absurd (false≢true e)
both false b e = absurd (false≢true e)

and_of : (a b : Bool) → a ≡ true → b ≡ true → (a && b) ≡ true
and_of true true e f = refl
and_of true false e f = f
and_of false b e f = e

-- no earlier than the last record, and not past the limit
pub in_time_of : (s : Shown) (now : ℕ) → s.moment ≤ now → now ≤ last_moment → is_in_time s now ≡ true
in_time_of s now from to = and_of (nat_le s.moment now) (nat_le now last_moment) (le_true s.moment now from) (le_true now last_moment to)

pub in_time_bounds : (s : Shown) (now : ℕ) → is_in_time s now ≡ true → (s.moment ≤ now) × (now ≤ last_moment)
in_time_bounds s now is =
    let parts = both (nat_le s.moment now) (nat_le now last_moment) is in
    (le_of s.moment now parts.0, le_of now last_moment parts.1)

-- a later moment within the limit
pub in_time_later : (s : Shown) (now later : ℕ) → is_in_time s now ≡ true → now ≤ later → later ≤ last_moment → is_in_time s later ≡ true
in_time_later s now later is on to = let bounds = in_time_bounds s now is in in_time_of s later (omega (arith, bounds.0, on)) to

-- the moment of the last record itself, where it is within the limit
pub in_time_after : (v w : EngineView) (IsNext : Record → Type 0) (now : ℕ) (old new : SiteView) (is : Appends v w IsNext old new) → moment_of is.adds.offers.comes.next ≡ now
    → now ≤ last_moment → is_in_time w.history.seen now ≡ true
in_time_after v w IsNext now old new is at to =
    let moment : w.history.seen.moment ≡ moment_of is.adds.offers.comes.next = ap (λ (h : HistoryView). h.seen.moment) is.adds.view in
    in_time_of w.history.seen now (omega (arith, moment, at)) to

-- ---- the clock's answers after which a session goes on

pub record HasReached (moment answer : ℕ) : Type 0 where
  pub reached : moment ≤ answer
  pub within : answer ≤ last_moment

pub has_reached : (moment answer : ℕ) → IsGoing (after_reach moment answer) → HasReached moment answer
has_reached moment answer = by (nat_lt last_moment answer) (nat_lt answer moment) refl refl
  where
    not_less : (a b : ℕ) → nat_lt a b ≡ false → b ≤ a
    not_less a b h = grind arith

    by : (a b : Bool) → nat_lt last_moment answer ≡ a → nat_lt answer moment ≡ b
        → IsGoing (if a then refused (past limit.Moment) false else if b then waits moment else rests) → HasReached moment answer
    by true b e f g = absurd g
    by false true e f g = absurd g
    by false false e f g = record { reached = not_less answer moment f; within = not_less last_moment answer e }

pub goes_reached : (moment answer : ℕ) (old new : World) → GoesTowards moment answer old new → IsGoing new.phase → HasReached moment answer
goes_reached moment answer old new is g = has_reached moment answer (subst IsGoing is.phase g)

-- ---- all steps

before : (w : World) (p : Phase) → w.phase ≡ p → IsGoing p → (p ≡ opened → ⊥) → InTime w → is_in_time w.engine.history.seen w.site.clock.now ≡ true
before w p e g not is = is (subst IsGoing (sym e) g) (λ f. not (sym e ∙ f))

same : (old new : World) → is_in_time old.engine.history.seen old.site.clock.now ≡ true → new.engine.history.seen ≡ old.engine.history.seen → new.site.clock.now ≡ old.site.clock.now → InTime new
same old new is seen now g no_opening =
    ap (λ (s : Shown). is_in_time s new.site.clock.now) seen ∙ ap (λ (n : ℕ). is_in_time old.engine.history.seen n) now ∙ is

engine_same : (old new : World) → is_in_time old.engine.history.seen old.site.clock.now ≡ true → new.engine ≡ old.engine → new.site.clock.now ≡ old.site.clock.now → InTime new
engine_same old new is e now = same old new is (ap (λ (v : EngineView). v.history.seen) e) now

site_now : (old new : SiteView) → new ≡ old → new.clock.now ≡ old.clock.now
site_now old new e = ap (λ (s : SiteView). s.clock.now) e

never : (new : World) → (IsGoing new.phase → ⊥) → InTime new
never new not g no_opening = absurd (not g)

tried : (IsNext : Record → Type 0) (old new : World) → ((next : Record) → IsNext next → moment_of next ≡ old.site.clock.now)
    → is_in_time old.engine.history.seen old.site.clock.now ≡ true → Tries IsNext old new → InTime new
tried IsNext old new at was (done is) = λ g no_opening.
    let now : new.site.clock.now ≡ old.site.clock.now = ap (λ (c : ClockView). c.now) is.appends.adds.offers.file.rest.clock in
    let bounds = in_time_bounds old.engine.history.seen old.site.clock.now was in
    subst (λ (n : ℕ). is_in_time new.engine.history.seen n ≡ true) (sym now)
    (in_time_after old.engine new.engine IsNext old.site.clock.now old.site new.site is.appends (at is.appends.adds.offers.comes.next is.appends.adds.offers.comes.is) bounds.1)
tried IsNext old new at was (failed is) = never new (stopped _ new.phase _ _ is.phase)
tried IsNext old new at was (limited what is) = never new (stopped _ new.phase _ _ is.phase)

went : (moment answer : ℕ) (old new : World) → GoesTowards moment answer old new → (IsGoing new.phase → old.engine.history.seen.moment ≤ answer) → InTime new
went moment answer old new is from g no_opening =
    let to = goes_reached moment answer old new is g in
    subst (λ (n : ℕ). is_in_time new.engine.history.seen n ≡ true) (sym is.reaches.now)
    (subst (λ (v : EngineView). is_in_time v.history.seen answer ≡ true) (sym is.sides.engine) (in_time_of old.engine.history.seen answer (from g) to.within))

rests_not : rests ≡ opened → ⊥
rests_not e = cc

looked_not : looked ≡ opened → ⊥
looked_not e = cc

owes_not : owes ≡ opened → ⊥
owes_not e = cc

pub step_in_time : (old new : World) → InTime old → Step old new → InTime new
step_in_time old new was (opens_clock answer is) = went _ answer old new is.goes (λ g. (goes_reached _ answer old new is.goes g).reached)
step_in_time old new was (finds_run_used agent is) = never new (stopped _ new.phase _ _ is.only.phase)
step_in_time old new was (asks_clock moment answer is) = went moment answer old new is.goes (λ g. let bounds = in_time_bounds old.engine.history.seen old.site.clock.now (before old looked is.next.up_to_date.on_time.untold.idle.has_looked.phase tt looked_not was) in omega (arith, bounds.0, is.goes.reaches.later))
step_in_time old new was (finds_late moment is) = never new (stopped _ new.phase _ _ is.only.phase)
step_in_time old new was (begins is) = tried _ old new (begins_now old.engine.history old.site.clock.now) (before old rests is.phase tt rests_not was) is.tries
step_in_time old new was (moves is) = tried _ old new (moves_now old.engine.history old.site.clock.now) (before old looked is.has_looked.phase tt looked_not was) is.tries
step_in_time old new was (upgrades issue told is) = tried _ old new (λ next e. ap moment_of e) (before old looked is.to_be_told.idle.has_looked.phase tt looked_not was) is.tries
step_in_time old new was (tells issue told is) = tried _ old new (λ next e. ap moment_of e) (before old looked is.to_be_told.idle.has_looked.phase tt looked_not was) is.tries
step_in_time old new was (expires issue is) = tried _ old new (λ next e. ap moment_of e) (before old looked is.overdue.untold.idle.has_looked.phase tt looked_not was) is.tries
step_in_time old new was (says bytes is) = engine_same old new (before old owes is.speaks.phase tt owes_not was) is.speaks.sides.engine is.speaks.only.time.now
step_in_time old new was (fails_to_say bytes is) = never new (stopped _ new.phase _ _ is.phase)
step_in_time old new was (puts_first issue is) = same old new (before old rests is.phase tt rests_not was) (ap (λ (v : EngineView). v.history.seen) is.puts.sends.view) is.puts.sends.put.time.now
step_in_time old new was (resends issue is) = same old new (before old looked is.due.on_time.untold.idle.has_looked.phase tt looked_not was) (ap (λ (v : EngineView). v.history.seen) is.puts.sends.view) is.puts.sends.put.time.now
step_in_time old new was (takes parcel is) = engine_same old new (before old rests is.turn.phase tt rests_not was) is.sides.engine is.only.time.now
step_in_time old new was (finds_none is) = engine_same old new (before old rests is.turn.phase tt rests_not was) is.sides.engine is.only.time.now
step_in_time old new was (fails_to_take is) = never new (stopped _ new.phase _ _ is.phase)
step_in_time old new was (drops beat parcel is) = engine_same old new (before old (holds beat parcel) is.phase tt (λ e. cc) was) is.ignores.engine (site_now old.site new.site is.site)
step_in_time old new was (replies beat parcel is) = tried _ old new (replies_now old.engine.history parcel old.site.clock.now) (before old (holds beat parcel) is.holds_reply.phase tt (λ e. cc) was) is.tries
step_in_time old new was (ignores_reply beat parcel is) = engine_same old new (before old (holds beat parcel) is.holds_reply.phase tt (λ e. cc) was) is.ignores.engine (site_now old.site new.site is.site)
step_in_time old new was (acts_on beat parcel v w is) = engine_same old new (before old (holds beat parcel) is.holds_command.phase tt (λ e. cc) was) is.engine (is.acts.puts.time.now ∙ ap (λ (c : ClockView). c.now) is.acts.offers.adds.file.rest.clock)
step_in_time old new was (repeats_reply beat parcel v w is) = engine_same old new (before old (holds beat parcel) is.holds_command.phase tt (λ e. cc) was) is.ignores.engine is.repeats.puts.time.now
step_in_time old new was (fails_to_act beat parcel v w error cause is) = never new (stopped _ new.phase _ _ is.phase)
step_in_time old new was (wants_memory_now is) = never new (stopped _ new.phase _ _ is.only.phase)

pub steps_in_time : EachInTime
steps_in_time a b is nothing = is
steps_in_time a b is (and_then {mid} steps step) = step_in_time mid b (steps_in_time a mid is steps) step

-- where a session begins nothing is asked
pub opened_in_time : (w : World) → w.phase ≡ opened → InTime w
opened_in_time w e g no_opening = absurd (no_opening e)
