-- Beside no filter nothing acts.
use Rattle.std.proofs.Common.{◌≡◌, ◌∙◌, refl, ap, arith, ℕ, ◌-◌, List, [], ◌∷◌, length}
use Rattle.std.specs.Prelude.{Some, slice_get}
use Rattle.run_records.specs.declared.record.Record.{Record}
use Rattle.slpf_actuator.specs.ActuatorView.{ActuatorView}
use Rattle.flow_world_steps.specs.Appends.{Tries}
use Rattle.flow_world_steps.specs.Appends.Tries.{done, failed, limited}
use Rattle.flow_world_steps.specs.Steps.{Step, Steps}
use Rattle.flow_world_steps.specs.Steps.Step.{opens_clock, finds_run_used, asks_clock, finds_late, begins, moves, upgrades, tells, expires, says, fails_to_say}
use Rattle.flow_world_steps.specs.Steps.Step.{puts_first, resends, takes, finds_none, fails_to_take, drops, replies, ignores_reply, acts_on, repeats_reply, fails_to_act, wants_memory_now}
use Rattle.flow_world_steps.specs.Steps.Steps.{nothing, and_then}
use Rattle.flow_world_steps.specs.Worlds.{Notes, World}
use Rattle.flow_world_steps.proofs.Grown.{steps_grow_filters}

-- no act was appended or is unsure that was not
pub record ActsNot (old new : World) : Type 0 where
  pub acted : new.notes.acted ≡ old.notes.acted
  pub unsure : new.notes.unsure_act ≡ old.notes.unsure_act

notes_not : (old new : World) → new.notes.acted ≡ old.notes.acted → new.notes.unsure_act ≡ old.notes.unsure_act → ActsNot old new
notes_not old new acted unsure = record { acted = acted; unsure = unsure }

tried : (IsNext : Record → Type 0) (old new : World) → Tries IsNext old new → ActsNot old new
tried IsNext old new (done is) = notes_not old new (ap (λ (n : Notes). n.acted) is.notes) (ap (λ (n : Notes). n.unsure_act) is.notes)
tried IsNext old new (failed is) = notes_not old new (ap (λ (n : Notes). n.acted) is.notes) (ap (λ (n : Notes). n.unsure_act) is.notes)
tried IsNext old new (limited what is) = notes_not old new (ap (λ (n : Notes). n.acted) is.notes) (ap (λ (n : Notes). n.unsure_act) is.notes)

none_at : (fs : List ActuatorView) (k : ℕ) (v : ActuatorView) → fs ≡ [] → slice_get fs k ≡ Some v → ⊥
none_at [] k v none there = cc
none_at (f ∷ fs) k v none there = cc

step_acts_not : (old new : World) → old.filters ≡ [] → Step old new → ActsNot old new
step_acts_not old new none (opens_clock answer is) = notes_not old new (ap (λ (n : Notes). n.acted) is.goes.notes) (ap (λ (n : Notes). n.unsure_act) is.goes.notes)
step_acts_not old new none (finds_run_used agent is) = notes_not old new (ap (λ (n : Notes). n.acted) is.only.notes) (ap (λ (n : Notes). n.unsure_act) is.only.notes)
step_acts_not old new none (asks_clock moment answer is) = notes_not old new (ap (λ (n : Notes). n.acted) is.goes.notes) (ap (λ (n : Notes). n.unsure_act) is.goes.notes)
step_acts_not old new none (finds_late moment is) = notes_not old new (ap (λ (n : Notes). n.acted) is.only.notes) (ap (λ (n : Notes). n.unsure_act) is.only.notes)
step_acts_not old new none (begins is) = tried _ old new is.tries
step_acts_not old new none (moves is) = tried _ old new is.tries
step_acts_not old new none (upgrades issue told is) = tried _ old new is.tries
step_acts_not old new none (tells issue told is) = tried _ old new is.tries
step_acts_not old new none (expires issue is) = tried _ old new is.tries
step_acts_not old new none (says bytes is) = notes_not old new (ap (λ (n : Notes). n.acted) is.speaks.notes) (ap (λ (n : Notes). n.unsure_act) is.speaks.notes)
step_acts_not old new none (fails_to_say bytes is) = notes_not old new (ap (λ (n : Notes). n.acted) is.speaks.notes) (ap (λ (n : Notes). n.unsure_act) is.speaks.notes)
step_acts_not old new none (puts_first issue is) = notes_not old new (ap (λ (n : Notes). n.acted) is.puts.notes) (ap (λ (n : Notes). n.unsure_act) is.puts.notes)
step_acts_not old new none (resends issue is) = notes_not old new (ap (λ (n : Notes). n.acted) is.puts.notes) (ap (λ (n : Notes). n.unsure_act) is.puts.notes)
step_acts_not old new none (takes parcel is) = notes_not old new (ap (λ (n : Notes). n.acted) is.notes) (ap (λ (n : Notes). n.unsure_act) is.notes)
step_acts_not old new none (finds_none is) = notes_not old new (ap (λ (n : Notes). n.acted) is.notes) (ap (λ (n : Notes). n.unsure_act) is.notes)
step_acts_not old new none (fails_to_take is) = notes_not old new (ap (λ (n : Notes). n.acted) is.notes) (ap (λ (n : Notes). n.unsure_act) is.notes)
step_acts_not old new none (drops beat parcel is) = notes_not old new (ap (λ (n : Notes). n.acted) is.ignores.notes) (ap (λ (n : Notes). n.unsure_act) is.ignores.notes)
step_acts_not old new none (replies beat parcel is) = tried _ old new is.tries
step_acts_not old new none (ignores_reply beat parcel is) = notes_not old new (ap (λ (n : Notes). n.acted) is.ignores.notes) (ap (λ (n : Notes). n.unsure_act) is.ignores.notes)
step_acts_not old new none (acts_on beat parcel v w is) = absurd (none_at old.filters (parcel.agent - 1) v none is.holds_command.there)
step_acts_not old new none (repeats_reply beat parcel v w is) = notes_not old new (ap (λ (n : Notes). n.acted) is.ignores.notes) (ap (λ (n : Notes). n.unsure_act) is.ignores.notes)
step_acts_not old new none (fails_to_act beat parcel v w error cause is) = absurd (none_at old.filters (parcel.agent - 1) v none is.holds_command.there)
step_acts_not old new none (wants_memory_now is) = notes_not old new (ap (λ (n : Notes). n.acted) is.only.notes) (ap (λ (n : Notes). n.unsure_act) is.only.notes)

none_long : (xs : List ActuatorView) → length xs ≡ 0 → xs ≡ []
none_long [] e = refl
none_long (x ∷ xs) e = absurd (omega (arith, e))

pub acts_not : (a b : World) → a.filters ≡ [] → Steps a b → ActsNot a b
acts_not a b none nothing = record { acted = refl; unsure = refl }
acts_not a b none (and_then {mid} steps step) =
    let before = acts_not a mid none steps in
    let many : length mid.filters ≡ 0 = (steps_grow_filters a mid steps).many ∙ ap length none in
    let now = step_acts_not mid b (none_long mid.filters many) step in
    record { acted = now.acted ∙ before.acted; unsure = now.unsure ∙ before.unsure }
