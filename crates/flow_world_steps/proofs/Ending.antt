-- Each session ends.
use Rattle.std.proofs.Common.{◌≡◌, ℕ, ◌≤◌, Bool, true, false, List, sym, ◌∙◌, ap, arith}
use Rattle.std.specs.Prelude.{nat_lt, if◌then◌else◌}
use Rattle.run_records.specs.Ranges.{last_moment}
use Rattle.run_records.specs.declared.record.Record.{Record}
use Rattle.flow_engine.specs.SetupLaws.{AcceptedIsRunnable}
use Rattle.flow_engine.specs.LimitKind.TheVariants as limit
use Rattle.flow_engine.specs.OperatorAnswer.{OperatorAnswer}
use Rattle.flow_core_rules.specs.Givens.{Given}
use Rattle.flow_world_steps.specs.Appends.{Tries}
use Rattle.flow_world_steps.specs.Appends.Tries.{done, failed, limited}
use Rattle.flow_world_steps.specs.Spent.{EachEnds, many, most_progress, progress}
use Rattle.flow_world_steps.specs.Stands.{AllStand, InTime}
use Rattle.flow_world_steps.specs.Steps.{Step, Steps, after_reach}
use Rattle.flow_world_steps.specs.Steps.Step.{opens_clock, finds_run_used, asks_clock, finds_late, begins, moves, upgrades, tells, expires, says, fails_to_say}
use Rattle.flow_world_steps.specs.Steps.Step.{puts_first, resends, takes, finds_none, fails_to_take, drops, replies, ignores_reply, acts_on, repeats_reply, fails_to_act, wants_memory_now}
use Rattle.flow_world_steps.specs.Steps.Steps.{nothing, and_then}
use Rattle.flow_world_steps.specs.Turns.{most_ignored}
use Rattle.flow_world_steps.specs.Whole.{IsOpened}
use Rattle.flow_world_steps.specs.Worlds.{Cause, IsGoing, Notes, Phase, World, opened, rests, looked, owes, holds, waits, refused, past}
use Rattle.flow_world_steps.proofs.Asked.{steps_ignore_few}
use Rattle.flow_world_steps.proofs.Bounded.{spent_few}
use Rattle.flow_world_steps.proofs.PutWhile.{opened_all_put}
use Rattle.flow_world_steps.proofs.Spending.{place_at_most, steps_spend}
use Rattle.flow_world_steps.proofs.Standing.{step_going, steps_stand}
use Rattle.flow_world_steps.proofs.Timely.{in_time_bounds, opened_in_time, steps_in_time}

-- ---- no step leads back to an opening

elsewhere : (p q : Phase) → (q ≡ opened → ⊥) → p ≡ q → p ≡ opened → ⊥
elsewhere p q not e f = not (sym e ∙ f)

rests_not : rests ≡ opened → ⊥
rests_not e = cc

looked_not : looked ≡ opened → ⊥
looked_not e = cc

owes_not : owes ≡ opened → ⊥
owes_not e = cc

refused_not : (cause : Cause) (lacks : Bool) → refused cause lacks ≡ opened → ⊥
refused_not cause lacks e = cc

reached_not : (moment answer : ℕ) → after_reach moment answer ≡ opened → ⊥
reached_not moment answer = by (nat_lt last_moment answer) (nat_lt answer moment)
  where
    by : (a b : Bool) → (if a then refused (past limit.Moment) false else if b then waits moment else rests) ≡ opened → ⊥
    by true b e = cc
    by false true e = cc
    by false false e = cc

tried_not : (IsNext : Record → Type 0) (old new : World) → Tries IsNext old new → new.phase ≡ opened → ⊥
tried_not IsNext old new (done is) = elsewhere new.phase owes owes_not is.phase
tried_not IsNext old new (failed is) = elsewhere new.phase _ (refused_not _ _) is.phase
tried_not IsNext old new (limited what is) = elsewhere new.phase _ (refused_not _ _) is.phase

not_reopened : (old new : World) → Step old new → new.phase ≡ opened → ⊥
not_reopened old new (opens_clock answer is) = elsewhere new.phase _ (reached_not _ answer) is.goes.phase
not_reopened old new (finds_run_used agent is) = elsewhere new.phase _ (refused_not _ _) is.only.phase
not_reopened old new (asks_clock moment answer is) = elsewhere new.phase _ (reached_not moment answer) is.goes.phase
not_reopened old new (finds_late moment is) = elsewhere new.phase _ (refused_not _ _) is.only.phase
not_reopened old new (begins is) = tried_not _ old new is.tries
not_reopened old new (moves is) = tried_not _ old new is.tries
not_reopened old new (upgrades issue told is) = tried_not _ old new is.tries
not_reopened old new (tells issue told is) = tried_not _ old new is.tries
not_reopened old new (expires issue is) = tried_not _ old new is.tries
not_reopened old new (says bytes is) = elsewhere new.phase rests rests_not is.phase
not_reopened old new (fails_to_say bytes is) = elsewhere new.phase _ (refused_not _ _) is.phase
not_reopened old new (puts_first issue is) = elsewhere new.phase rests rests_not is.puts.phase
not_reopened old new (resends issue is) = elsewhere new.phase rests rests_not is.puts.phase
not_reopened old new (takes parcel is) = elsewhere new.phase (holds new.site.disk.beat parcel) (λ e. cc) is.phase
not_reopened old new (finds_none is) = elsewhere new.phase looked looked_not is.phase
not_reopened old new (fails_to_take is) = elsewhere new.phase _ (refused_not _ _) is.phase
not_reopened old new (drops beat parcel is) = elsewhere new.phase rests rests_not is.ignores.phase
not_reopened old new (replies beat parcel is) = tried_not _ old new is.tries
not_reopened old new (ignores_reply beat parcel is) = elsewhere new.phase rests rests_not is.ignores.phase
not_reopened old new (acts_on beat parcel v w is) = elsewhere new.phase rests rests_not is.phase
not_reopened old new (repeats_reply beat parcel v w is) = elsewhere new.phase rests rests_not is.ignores.phase
not_reopened old new (fails_to_act beat parcel v w error cause is) = elsewhere new.phase _ (refused_not _ _) is.phase
not_reopened old new (wants_memory_now is) = elsewhere new.phase _ (refused_not _ _) is.only.phase

-- ---- the bound

-- the progress of a session that goes on, once its clock was asked
pub progress_few : (w : World) → AllStand w → InTime w → w.notes.ignored ≤ most_ignored → IsGoing w.phase → (w.phase ≡ opened → ⊥) → progress w ≤ most_progress
progress_few w stands timely few g not =
    let within = (in_time_bounds w.engine.history.seen w.site.clock.now (timely g not)).1 in
    let bound = spent_few w.engine w.filters w.site w.notes.ignored w.site.clock.now stands.engine.engine.history stands.engine.engine.put stands.filters few within in
    omega (arith, bound, place_at_most w.phase)

-- a step more behind steps that begin at an opening
ends_by : AcceptedIsRunnable → (a mid : World) (given : Given) (run most : ℕ) (answers : List OperatorAnswer) → IsOpened a given run most answers → (steps : Steps a mid) → IsGoing mid.phase
    → many steps ≤ most_progress
ends_by runnable a mid given run most answers is nothing g = omega arith
ends_by runnable a last given run most answers is (and_then {mid} steps step) g =
    let all = and_then steps step in
    let timely = steps_in_time a last (opened_in_time a is.phase) all in
    let stands = steps_stand a last (record { engine = is.whole; filters = is.filters }) all g in
    let ignored : a.notes.ignored ≡ 0 = ap (λ (n : Notes). n.ignored) is.notes in
    let few = steps_ignore_few a last (omega (arith, ignored)) all in
    let bound = progress_few last stands timely few g (not_reopened mid last step) in
    let spends = steps_spend runnable a last (opened_in_time a is.phase) (opened_all_put a is.phase) all g in
    omega (arith, bound, spends)

pub each_ends : AcceptedIsRunnable → EachEnds
each_ends runnable a b given run most answers is nothing = omega arith
each_ends runnable a b given run most answers is (and_then {mid} steps step) =
    let before = ends_by runnable a mid given run most answers is steps (step_going mid b step) in
    omega (arith, before)
