-- A session that refuses past a limit could have appended a record more, or it appended none.
use Rattle.std.proofs.Common.{◌≡◌, ◌⊎◌, inl, inr, ◌∙◌, refl, sym, ap, subst, arith, ◌≤◌, Bool, true, false}
use Rattle.run_records.specs.declared.record.Record.{Record}
use Rattle.flow_core.specs.declared.flow_errors.LimitKind.{LimitKind}
use Rattle.flow_engine.specs.EngineView.{EngineView}
use Rattle.flow_world_steps.specs.Appends.{Tries}
use Rattle.flow_world_steps.specs.Appends.Tries.{done, failed, limited}
use Rattle.flow_world_steps.specs.Steps.{Step, Steps}
use Rattle.flow_world_steps.specs.Steps.Step.{opens_clock, finds_run_used, asks_clock, finds_late, begins, moves, upgrades, tells, expires, says, fails_to_say, puts_first, resends, takes, finds_none, fails_to_take, drops, replies, ignores_reply, acts_on, repeats_reply, fails_to_act, wants_memory_now}
use Rattle.flow_world_steps.specs.Steps.Steps.{nothing, and_then}
use Rattle.flow_world_steps.specs.Worlds.{Cause, IsGoing, Notes, Phase, World, disk_failed, holds, looked, not_said, opened, owes, past, refused, rests, run_used, wants_memory}
use Rattle.flow_world_steps.proofs.Asked.{step_not_opened}
use Rattle.flow_world_steps.proofs.Ended.{going_as, steps_end}
use Rattle.flow_world_steps.proofs.Failing.{fails_notes}
use Rattle.flow_world_laws.specs.Ends.{TurnAt}
use Rattle.flow_world_laws.proofs.Shown.{steps_in_turn}

abbrev pub CouldMore : World → World → Type 0
CouldMore a b = (1 ≤ b.notes.left) ⊎ (b.engine.history.records ≡ a.engine.history.records)

-- the engine is as it was where no call was made yet
pub opened-same : (a old : World) → Steps a old → old.phase ≡ opened → old.engine ≡ a.engine
opened-same a old nothing at = refl
opened-same a old (and_then {mid} steps step) at = absurd (step_not_opened mid old step at)

left-same : (old new : World) → new.notes.left ≡ old.notes.left → 1 ≤ old.notes.left → 1 ≤ new.notes.left
left-same old new same le = omega (arith, same, le)

pub unlike : (p q : Phase) (what : LimitKind) (lacks : Bool) → (q ≡ refused (past what) lacks → ⊥) → p ≡ q → p ≡ refused (past what) lacks → ⊥
unlike p q what lacks not e at = not (sym e ∙ at)

pub unlike-cause : (p : Phase) (cause : Cause) (line : Bool) (what : LimitKind) (lacks : Bool) → (cause ≡ past what → ⊥) → p ≡ refused cause line → p ≡ refused (past what) lacks → ⊥
unlike-cause p cause line what lacks not e at = not (same (sym e ∙ at))
  where
    same : refused cause line ≡ refused (past what) lacks → cause ≡ past what
    same e = cc

tried : (IsNext : Record → Type 0) (old new : World) (what : LimitKind) (lacks : Bool) → 1 ≤ old.notes.left → Tries IsNext old new → new.phase ≡ refused (past what) lacks → 1 ≤ new.notes.left
tried IsNext old new what lacks le (done is) at = absurd (unlike new.phase owes what lacks (λ e. cc) is.phase at)
tried IsNext old new what lacks le (failed is) at = absurd (unlike-cause new.phase disk_failed false what lacks (λ e. cc) is.phase at)
tried IsNext old new what lacks le (limited kind is) at = left-same old new (ap (λ (n : Notes). n.left) is.notes) le

step-could : (a old new : World) (what : LimitKind) (lacks : Bool) → a.phase ≡ opened → Steps a old → Step old new → new.phase ≡ refused (past what) lacks → CouldMore a new
step-could a old new what lacks first before (opens_clock answer is) at =
    inr (ap (λ (v : EngineView). v.history.records) (is.goes.sides.engine ∙ opened-same a old before is.phase))
step-could a old new what lacks first before (finds_run_used agent is) at = absurd (unlike-cause new.phase (run_used agent) false what lacks (λ e. cc) is.only.phase at)
step-could a old new what lacks first before (asks_clock moment answer is) at =
    inl (left-same old new (ap (λ (n : Notes). n.left) is.goes.notes) is.next.up_to_date.on_time.untold.idle.has_looked.budget)
step-could a old new what lacks first before (finds_late moment is) at =
    inl (left-same old new (ap (λ (n : Notes). n.left) is.only.notes) is.next.up_to_date.on_time.untold.idle.has_looked.budget)
step-could a old new what lacks first before (begins is) at = inl (tried _ old new what lacks is.budget is.tries at)
step-could a old new what lacks first before (moves is) at = inl (tried _ old new what lacks is.has_looked.budget is.tries at)
step-could a old new what lacks first before (upgrades issue told is) at = inl (tried _ old new what lacks is.to_be_told.idle.has_looked.budget is.tries at)
step-could a old new what lacks first before (tells issue told is) at = inl (tried _ old new what lacks is.to_be_told.idle.has_looked.budget is.tries at)
step-could a old new what lacks first before (expires issue is) at = inl (tried _ old new what lacks is.overdue.untold.idle.has_looked.budget is.tries at)
step-could a old new what lacks first before (says bytes is) at = absurd (unlike new.phase rests what lacks (λ e. cc) is.phase at)
step-could a old new what lacks first before (fails_to_say bytes is) at = absurd (unlike-cause new.phase not_said true what lacks (λ e. cc) is.phase at)
step-could a old new what lacks first before (puts_first issue is) at = absurd (unlike new.phase rests what lacks (λ e. cc) is.puts.phase at)
step-could a old new what lacks first before (resends issue is) at = absurd (unlike new.phase rests what lacks (λ e. cc) is.puts.phase at)
step-could a old new what lacks first before (takes parcel is) at = absurd (unlike new.phase (holds new.site.disk.beat parcel) what lacks (λ e. cc) is.phase at)
step-could a old new what lacks first before (finds_none is) at = absurd (unlike new.phase looked what lacks (λ e. cc) is.phase at)
step-could a old new what lacks first before (fails_to_take is) at = absurd (unlike-cause new.phase wants_memory false what lacks (λ e. cc) is.phase at)
step-could a old new what lacks first before (drops beat parcel is) at = absurd (unlike new.phase rests what lacks (λ e. cc) is.ignores.phase at)
step-could a old new what lacks first before (replies beat parcel is) at = inl (tried _ old new what lacks is.budget is.tries at)
step-could a old new what lacks first before (ignores_reply beat parcel is) at = absurd (unlike new.phase rests what lacks (λ e. cc) is.ignores.phase at)
step-could a old new what lacks first before (acts_on beat parcel v w is) at = absurd (unlike new.phase rests what lacks (λ e. cc) is.phase at)
step-could a old new what lacks first before (repeats_reply beat parcel v w is) at = absurd (unlike new.phase rests what lacks (λ e. cc) is.ignores.phase at)
step-could a old new what lacks first before (fails_to_act beat parcel v w error cause is) at =
    let turn : TurnAt (holds beat parcel) old = subst (λ (p : Phase). TurnAt p old) is.holds_command.phase (steps_in_turn a old first before) in
    inl (left-same old new (ap (λ (n : Notes). n.left) (fails_notes error parcel v old new is.notes)) turn.0.may.budget)
step-could a old new what lacks first before (wants_memory_now is) at = absurd (unlike-cause new.phase wants_memory _ what lacks (λ e. cc) is.only.phase at)

pub past-could : (a b : World) (what : LimitKind) (lacks : Bool) → a.phase ≡ opened → Steps a b → b.phase ≡ refused (past what) lacks → CouldMore a b
past-could a b what lacks first steps at =
    let last = steps_end a b (going_as a.phase opened first tt) steps (λ going. subst IsGoing at going) in
    step-could a last.old b what lacks first last.before last.step at
