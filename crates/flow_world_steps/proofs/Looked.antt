-- What a turn that has looked for a parcel knows.
use Rattle.std.proofs.Common.{◌≡◌, ℕ, Bool, true, false, List, [], sym, ◌∙◌, subst}
use Rattle.std.specs.Prelude.{Option, Some, None, IfSome, Contains, nat_lt, if◌then◌else◌}
use Rattle.std.proofs.lemmas.List.Elements.{Contains-push}
use Rattle.cacao_site.specs.LinkCalls.{Gains}
use Rattle.cacao_site.specs.declared.parcel.Parcel.{Parcel}
use Rattle.run_records.specs.Ranges.{last_moment}
use Rattle.run_records.specs.declared.record.Record.{Record}
use Rattle.flow_engine.specs.LimitKind.TheVariants as limit
use Rattle.flow_world_steps.specs.Appends.{Tries}
use Rattle.flow_world_steps.specs.Appends.Tries.{done, failed, limited}
use Rattle.flow_world_steps.specs.Ready.{EachLooked, FoundNone}
use Rattle.flow_world_steps.specs.Steps.{FindsNone, Step, after_reach}
use Rattle.flow_world_steps.specs.Steps.Step.{opens_clock, finds_run_used, asks_clock, finds_late, begins, moves, upgrades, tells, expires, says, fails_to_say}
use Rattle.flow_world_steps.specs.Steps.Step.{puts_first, resends, takes, finds_none, fails_to_take, drops, replies, ignores_reply, acts_on, repeats_reply, fails_to_act, wants_memory_now}
use Rattle.flow_world_steps.specs.Steps.Steps.{nothing, and_then}
use Rattle.flow_world_steps.specs.Worlds.{World, Phase, Cause, rests, looked, owes, holds, waits, refused, past}

-- ---- no other step leads there

not_looked : (P : Type 0) (p q : Phase) → (q ≡ looked → ⊥) → p ≡ q → p ≡ looked → P
not_looked P p q not e f = absurd (not (sym e ∙ f))

rests_not : rests ≡ looked → ⊥
rests_not e = cc

owes_not : owes ≡ looked → ⊥
owes_not e = cc

holds_not : (beat : ℕ) (parcel : Parcel) → holds beat parcel ≡ looked → ⊥
holds_not beat parcel e = cc

refused_not : (cause : Cause) (lacks : Bool) → refused cause lacks ≡ looked → ⊥
refused_not cause lacks e = cc

reached_not : (moment answer : ℕ) → after_reach moment answer ≡ looked → ⊥
reached_not moment answer = by (nat_lt last_moment answer) (nat_lt answer moment)
  where
    by : (a b : Bool) → (if a then refused (past limit.Moment) false else if b then waits moment else rests) ≡ looked → ⊥
    by true b e = cc
    by false true e = cc
    by false false e = cc

tried : (P : Type 0) (IsNext : Record → Type 0) (old new : World) → Tries IsNext old new → new.phase ≡ looked → P
tried P IsNext old new (done is) = not_looked P new.phase owes owes_not is.phase
tried P IsNext old new (failed is) = not_looked P new.phase _ (refused_not _ _) is.phase
tried P IsNext old new (limited what is) = not_looked P new.phase _ (refused_not _ _) is.phase

-- ---- the one that does

gained : (old new : Option (List ℕ)) (moment : ℕ) → Gains old moment new → IfSome new (λ moments. Contains moments moment)
gained (Some old) (Some new) moment is = subst (λ (l : List ℕ). Contains l moment) (sym is) (Contains-push old moment)
gained (Some old) None moment is = absurd is
gained None (Some new) moment is = absurd is
gained None None moment is = tt

found : (old new : World) → FindsNone old new → FoundNone new.site new.site.clock.now
found old new is = record {
  has = gained old.site.link.empty_takes new.site.link.empty_takes new.site.clock.now is.none.empty_takes;
  none = subst (λ (o : Option (List Parcel)). IfSome o (λ pending. pending ≡ [])) (sym is.none.pending) is.none.none;
}

step_looks : (old new : World) → Step old new → new.phase ≡ looked → FoundNone new.site new.site.clock.now
step_looks old new (opens_clock answer is) = not_looked _ new.phase _ (reached_not _ answer) is.goes.phase
step_looks old new (finds_run_used agent is) = not_looked _ new.phase _ (refused_not _ _) is.only.phase
step_looks old new (asks_clock moment answer is) = not_looked _ new.phase _ (reached_not moment answer) is.goes.phase
step_looks old new (finds_late moment is) = not_looked _ new.phase _ (refused_not _ _) is.only.phase
step_looks old new (begins is) = tried _ _ old new is.tries
step_looks old new (moves is) = tried _ _ old new is.tries
step_looks old new (upgrades issue told is) = tried _ _ old new is.tries
step_looks old new (tells issue told is) = tried _ _ old new is.tries
step_looks old new (expires issue is) = tried _ _ old new is.tries
step_looks old new (says bytes is) = not_looked _ new.phase rests rests_not is.phase
step_looks old new (fails_to_say bytes is) = not_looked _ new.phase _ (refused_not _ _) is.phase
step_looks old new (puts_first issue is) = not_looked _ new.phase rests rests_not is.puts.phase
step_looks old new (resends issue is) = not_looked _ new.phase rests rests_not is.puts.phase
step_looks old new (takes parcel is) = not_looked _ new.phase _ (holds_not new.site.disk.beat parcel) is.phase
step_looks old new (finds_none is) = λ e. found old new is
step_looks old new (fails_to_take is) = not_looked _ new.phase _ (refused_not _ _) is.phase
step_looks old new (drops beat parcel is) = not_looked _ new.phase rests rests_not is.ignores.phase
step_looks old new (replies beat parcel is) = tried _ _ old new is.tries
step_looks old new (ignores_reply beat parcel is) = not_looked _ new.phase rests rests_not is.ignores.phase
step_looks old new (acts_on beat parcel v w is) = not_looked _ new.phase rests rests_not is.phase
step_looks old new (repeats_reply beat parcel v w is) = not_looked _ new.phase rests rests_not is.ignores.phase
step_looks old new (fails_to_act beat parcel v w error cause is) = not_looked _ new.phase _ (refused_not _ _) is.phase
step_looks old new (wants_memory_now is) = not_looked _ new.phase _ (refused_not _ _) is.only.phase

pub steps_look : EachLooked
steps_look a b not nothing e = absurd (not e)
steps_look a b not (and_then {mid} steps step) e = step_looks mid b step e
