-- Where a turn has looked for a parcel, each issue that waits for a filter was put.
use Rattle.std.proofs.Common.{◌≡◌, ℕ, Bool, true, false, sym, ◌∙◌, subst}
use Rattle.std.specs.Prelude.{nat_lt, if◌then◌else◌}
use Rattle.run_records.specs.Ranges.{last_moment}
use Rattle.run_records.specs.declared.record.Record.{Record}
use Rattle.flow_engine.specs.LimitKind.TheVariants as limit
use Rattle.flow_engine.specs.EngineView.{EngineView}
use Rattle.flow_world_steps.specs.Appends.{Tries}
use Rattle.flow_world_steps.specs.Appends.Tries.{done, failed, limited}
use Rattle.flow_world_steps.specs.Sides.{AllPut}
use Rattle.flow_world_steps.specs.Stands.{AllPutWhileLooked, EachAllPut}
use Rattle.flow_world_steps.specs.Steps.{FindsNone, Step, after_reach}
use Rattle.flow_world_steps.specs.Steps.Step.{opens_clock, finds_run_used, asks_clock, finds_late, begins, moves, upgrades, tells, expires, says, fails_to_say}
use Rattle.flow_world_steps.specs.Steps.Step.{puts_first, resends, takes, finds_none, fails_to_take, drops, replies, ignores_reply, acts_on, repeats_reply, fails_to_act, wants_memory_now}
use Rattle.flow_world_steps.specs.Steps.Steps.{nothing, and_then}
use Rattle.flow_world_steps.specs.Worlds.{World, Phase, Cause, opened, rests, looked, owes, holds, waits, refused, past}

-- a world at another phase
elsewhere : (w : World) (p : Phase) → w.phase ≡ p → (p ≡ looked → ⊥) → AllPutWhileLooked w
elsewhere w p e not f = absurd (not (sym e ∙ f))

rests_not : rests ≡ looked → ⊥
rests_not e = cc

owes_not : owes ≡ looked → ⊥
owes_not e = cc

refused_not : (cause : Cause) (lacks : Bool) → refused cause lacks ≡ looked → ⊥
refused_not cause lacks e = cc

reached_not : (moment answer : ℕ) → after_reach moment answer ≡ looked → ⊥
reached_not moment answer = by (nat_lt last_moment answer) (nat_lt answer moment)
  where
    by : (a b : Bool) → (if a then refused (past limit.Moment) false else if b then waits moment else rests) ≡ looked → ⊥
    by true b e = cc
    by false true e = cc
    by false false e = cc

tried : (IsNext : Record → Type 0) (old new : World) → Tries IsNext old new → AllPutWhileLooked new
tried IsNext old new (done is) = elsewhere new owes is.phase owes_not
tried IsNext old new (failed is) = elsewhere new _ is.phase (refused_not _ _)
tried IsNext old new (limited what is) = elsewhere new _ is.phase (refused_not _ _)

-- a turn begins with all put, and a take changes no engine
found : (old new : World) → FindsNone old new → AllPutWhileLooked new
found old new is e = subst (λ (v : EngineView). AllPut v) (sym is.sides.engine) is.turn.put

-- Whatever was before.
pub step_all_put : (old new : World) → Step old new → AllPutWhileLooked new
step_all_put old new (opens_clock answer is) = elsewhere new _ is.goes.phase (reached_not _ answer)
step_all_put old new (finds_run_used agent is) = elsewhere new _ is.only.phase (refused_not _ _)
step_all_put old new (asks_clock moment answer is) = elsewhere new _ is.goes.phase (reached_not moment answer)
step_all_put old new (finds_late moment is) = elsewhere new _ is.only.phase (refused_not _ _)
step_all_put old new (begins is) = tried _ old new is.tries
step_all_put old new (moves is) = tried _ old new is.tries
step_all_put old new (upgrades issue told is) = tried _ old new is.tries
step_all_put old new (tells issue told is) = tried _ old new is.tries
step_all_put old new (expires issue is) = tried _ old new is.tries
step_all_put old new (says bytes is) = elsewhere new rests is.phase rests_not
step_all_put old new (fails_to_say bytes is) = elsewhere new _ is.phase (refused_not _ _)
step_all_put old new (puts_first issue is) = elsewhere new rests is.puts.phase rests_not
step_all_put old new (resends issue is) = elsewhere new rests is.puts.phase rests_not
step_all_put old new (takes parcel is) = elsewhere new (holds new.site.disk.beat parcel) is.phase (λ e. cc)
step_all_put old new (finds_none is) = found old new is
step_all_put old new (fails_to_take is) = elsewhere new _ is.phase (refused_not _ _)
step_all_put old new (drops beat parcel is) = elsewhere new rests is.ignores.phase rests_not
step_all_put old new (replies beat parcel is) = tried _ old new is.tries
step_all_put old new (ignores_reply beat parcel is) = elsewhere new rests is.ignores.phase rests_not
step_all_put old new (acts_on beat parcel v w is) = elsewhere new rests is.phase rests_not
step_all_put old new (repeats_reply beat parcel v w is) = elsewhere new rests is.ignores.phase rests_not
step_all_put old new (fails_to_act beat parcel v w error cause is) = elsewhere new _ is.phase (refused_not _ _)
step_all_put old new (wants_memory_now is) = elsewhere new _ is.only.phase (refused_not _ _)

pub steps_all_put : EachAllPut
steps_all_put a b is nothing = is
steps_all_put a b is (and_then {mid} steps step) = step_all_put mid b step

-- where a session begins nothing is asked
pub opened_all_put : (w : World) → w.phase ≡ opened → AllPutWhileLooked w
opened_all_put w e = elsewhere w opened e (λ f. cc)
