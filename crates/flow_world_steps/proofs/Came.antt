-- Each appended record and each appended act came by one step.
use Rattle.std.proofs.Common.{◌≡◌, ◌⊎◌, inl, inr, ℕ, List, [], ◌∷◌, ◌++◌, length, refl, sym, ◌∙◌, ap, arith}
use Rattle.std.proofs.lemmas.List.{append_assoc, length-append}
use Rattle.run_records.specs.declared.record.Record.{Record}
use Rattle.run_records.specs.declared.act.Act.{Act}
use Rattle.flow_engine.specs.HistoryView.{HistoryView}
use Rattle.flow_engine.specs.EngineView.{EngineView}
use Rattle.slpf_actuator.specs.ActuatorView.{act_for}
use Rattle.flow_world_steps.specs.Appends.{Tries}
use Rattle.flow_world_steps.specs.Appends.Tries.{done, failed, limited}
use Rattle.flow_world_steps.specs.Steps.{Step}
use Rattle.flow_world_steps.specs.Steps.Step.{opens_clock, finds_run_used, asks_clock, finds_late, begins, moves, upgrades, tells, expires, says, fails_to_say}
use Rattle.flow_world_steps.specs.Steps.Step.{puts_first, resends, takes, finds_none, fails_to_take, drops, replies, ignores_reply, acts_on, repeats_reply, fails_to_act, wants_memory_now}
use Rattle.flow_world_steps.specs.Steps.Steps.{nothing, and_then}
use Rattle.flow_world_steps.specs.Sums.{EachCame}
use Rattle.flow_world_steps.specs.Causes.{EachActed}
use Rattle.flow_world_steps.specs.Worlds.{Notes, World}
use Rattle.flow_world_steps.proofs.Failing.{fails_notes}

-- one act more, or none
GrownBy : List (ℕ × Act) → List (ℕ × Act) → Type 0
GrownBy old new = (new ≡ old) ⊎ ((x : ℕ × Act) × (new ≡ old ++ x ∷ []))

-- one record more, or none
pub Grown : List Record → List Record → Type 0
Grown old new = (new ≡ old) ⊎ ((x : Record) × (new ≡ old ++ x ∷ []))

same_records : (v w : EngineView) → w ≡ v → Grown v.history.records w.history.records
unfolding Grown
same_records v w e = inl (ap (λ (x : EngineView). x.history.records) e)

tried : (IsNext : Record → Type 0) (old new : World) → Tries IsNext old new → Grown old.engine.history.records new.engine.history.records
unfolding Grown
tried IsNext old new (done is) = inr (is.appends.adds.offers.comes.next, ap (λ (h : HistoryView). h.records) is.appends.adds.view)
tried IsNext old new (failed is) = inl (ap (λ (h : HistoryView). h.records) is.refuses.0.1)
tried IsNext old new (limited what is) = inl (ap (λ (h : HistoryView). h.records) is.refuses.0.1)

pub step_grows : (old new : World) → Step old new → Grown old.engine.history.records new.engine.history.records
unfolding Grown
step_grows old new (opens_clock answer is) = same_records old.engine new.engine is.goes.sides.engine
step_grows old new (finds_run_used agent is) = same_records old.engine new.engine is.only.sides.engine
step_grows old new (asks_clock moment answer is) = same_records old.engine new.engine is.goes.sides.engine
step_grows old new (finds_late moment is) = same_records old.engine new.engine is.only.sides.engine
step_grows old new (begins is) = tried _ old new is.tries
step_grows old new (moves is) = tried _ old new is.tries
step_grows old new (upgrades issue told is) = tried _ old new is.tries
step_grows old new (tells issue told is) = tried _ old new is.tries
step_grows old new (expires issue is) = tried _ old new is.tries
step_grows old new (says bytes is) = same_records old.engine new.engine is.speaks.sides.engine
step_grows old new (fails_to_say bytes is) = same_records old.engine new.engine is.speaks.sides.engine
step_grows old new (puts_first issue is) = inl (ap (λ (x : EngineView). x.history.records) is.puts.sends.view)
step_grows old new (resends issue is) = inl (ap (λ (x : EngineView). x.history.records) is.puts.sends.view)
step_grows old new (takes parcel is) = same_records old.engine new.engine is.sides.engine
step_grows old new (finds_none is) = same_records old.engine new.engine is.sides.engine
step_grows old new (fails_to_take is) = same_records old.engine new.engine is.sides.engine
step_grows old new (drops beat parcel is) = same_records old.engine new.engine is.ignores.engine
step_grows old new (replies beat parcel is) = tried _ old new is.tries
step_grows old new (ignores_reply beat parcel is) = same_records old.engine new.engine is.ignores.engine
step_grows old new (acts_on beat parcel v w is) = same_records old.engine new.engine is.engine
step_grows old new (repeats_reply beat parcel v w is) = same_records old.engine new.engine is.ignores.engine
step_grows old new (fails_to_act beat parcel v w error cause is) = same_records old.engine new.engine is.engine
step_grows old new (wants_memory_now is) = same_records old.engine new.engine is.only.sides.engine

-- two lists that are equal with their last ones
pub same_last : {T : Type 0} (xs ys : List T) (x y : T) → xs ++ x ∷ [] ≡ ys ++ y ∷ [] → (xs ≡ ys) × (x ≡ y)
same_last [] [] x y e = (refl, cc)
same_last {T} [] (z ∷ ys) x y e = let long = ap (λ (l : List T). length l) e in absurd (omega (arith, long, length-append ys (y ∷ [])))
same_last {T} (z ∷ xs) [] x y e = let long = ap (λ (l : List T). length l) e in absurd (omega (arith, long, length-append xs (x ∷ [])))
same_last (z ∷ xs) (w ∷ ys) x y e =
    let head : z ≡ w = cc in
    let rest : xs ++ x ∷ [] ≡ ys ++ y ∷ [] = cc in
    let is = same_last xs ys x y rest in
    (ap (λ l. z ∷ l) is.0 ∙ ap (λ h. h ∷ ys) head, is.1)

-- a list is empty, or has a last one
pub last_of : {T : Type 0} (xs : List T) → (xs ≡ []) ⊎ ((front : List T) × (x : T) × (xs ≡ front ++ x ∷ []))
last_of [] = inl refl
last_of (x ∷ xs) = elim (last_of xs) [
  | inl none ↦ inr ([], x, ap (λ l. x ∷ l) none)
  | inr some ↦ inr (x ∷ some.0, some.1, ap (λ l. x ∷ l) some.2)
]

too_long : (a front back : List Record) (r : Record) → a ≡ (a ++ front) ++ r ∷ back → ⊥
too_long a front back r e = let long = ap (λ (l : List Record). length l) e in omega (arith, long, length-append (a ++ front) (r ∷ back), length-append a front)

pub steps_came : EachCame
unfolding Grown
steps_came a b nothing front back r e = absurd (too_long a.engine.history.records front back r e)
steps_came a b (and_then {mid} steps step) front back r e = elim (step_grows mid b step) [
  | inl same ↦
      let c = steps_came a mid steps front back r (sym same ∙ e) in
      record { old = c.old; new = c.new; before = c.before; step = c.step; after = and_then c.after step; was = c.was; has = c.has }
  | inr one ↦ elim (last_of back) [
    | inl none ↦
        let is = same_last mid.engine.history.records (a.engine.history.records ++ front) one.0 r
        (sym one.1 ∙ e ∙ ap (λ (l : List Record). (a.engine.history.records ++ front) ++ r ∷ l) none) in
        record { old = mid; new = b; before = steps; step = step; after = nothing; was = is.0; has = one.1 ∙ ap (λ (x : Record). mid.engine.history.records ++ x ∷ []) is.1 }
    | inr some ↦
        let split : (a.engine.history.records ++ front) ++ r ∷ back ≡ ((a.engine.history.records ++ front) ++ r ∷ some.0) ++ some.1 ∷ [] =
        ap (λ (l : List Record). (a.engine.history.records ++ front) ++ r ∷ l) some.2 ∙ sym (append_assoc (a.engine.history.records ++ front) (r ∷ some.0) (some.1 ∷ [])) in
        let is = same_last mid.engine.history.records ((a.engine.history.records ++ front) ++ r ∷ some.0) one.0 some.1 (sym one.1 ∙ e ∙ split) in
        let c = steps_came a mid steps front some.0 r is.0 in
        record { old = c.old; new = c.new; before = c.before; step = c.step; after = and_then c.after step; was = c.was; has = c.has }
  ]
]

-- ---- acts

same_acts : (old new : World) → new.notes ≡ old.notes → GrownBy old.notes.acted new.notes.acted
unfolding GrownBy
same_acts old new e = inl (ap (λ (n : Notes). n.acted) e)

tried_acts : (IsNext : Record → Type 0) (old new : World) → Tries IsNext old new → GrownBy old.notes.acted new.notes.acted
unfolding GrownBy
tried_acts IsNext old new (done is) = inl (ap (λ (n : Notes). n.acted) is.notes)
tried_acts IsNext old new (failed is) = inl (ap (λ (n : Notes). n.acted) is.notes)
tried_acts IsNext old new (limited what is) = inl (ap (λ (n : Notes). n.acted) is.notes)

step_acts : (old new : World) → Step old new → GrownBy old.notes.acted new.notes.acted
unfolding GrownBy
step_acts old new (opens_clock answer is) = inl (ap (λ (n : Notes). n.acted) is.goes.notes)
step_acts old new (finds_run_used agent is) = same_acts old new is.only.notes
step_acts old new (asks_clock moment answer is) = inl (ap (λ (n : Notes). n.acted) is.goes.notes)
step_acts old new (finds_late moment is) = same_acts old new is.only.notes
step_acts old new (begins is) = tried_acts _ old new is.tries
step_acts old new (moves is) = tried_acts _ old new is.tries
step_acts old new (upgrades issue told is) = tried_acts _ old new is.tries
step_acts old new (tells issue told is) = tried_acts _ old new is.tries
step_acts old new (expires issue is) = tried_acts _ old new is.tries
step_acts old new (says bytes is) = same_acts old new is.speaks.notes
step_acts old new (fails_to_say bytes is) = same_acts old new is.speaks.notes
step_acts old new (puts_first issue is) = inl (ap (λ (n : Notes). n.acted) is.puts.notes)
step_acts old new (resends issue is) = inl (ap (λ (n : Notes). n.acted) is.puts.notes)
step_acts old new (takes parcel is) = same_acts old new is.notes
step_acts old new (finds_none is) = same_acts old new is.notes
step_acts old new (fails_to_take is) = same_acts old new is.notes
step_acts old new (drops beat parcel is) = inl (ap (λ (n : Notes). n.acted) is.ignores.notes)
step_acts old new (replies beat parcel is) = tried_acts _ old new is.tries
step_acts old new (ignores_reply beat parcel is) = inl (ap (λ (n : Notes). n.acted) is.ignores.notes)
step_acts old new (acts_on beat parcel v w is) = inr ((parcel.agent, act_for v.acts parcel old.site.clock.now), ap (λ (n : Notes). n.acted) is.notes)
step_acts old new (repeats_reply beat parcel v w is) = inl (ap (λ (n : Notes). n.acted) is.ignores.notes)
step_acts old new (fails_to_act beat parcel v w error cause is) = inl (ap (λ (n : Notes). n.acted) (fails_notes error parcel v old new is.notes))
step_acts old new (wants_memory_now is) = same_acts old new is.only.notes

too_long_acts : (a front back : List (ℕ × Act)) (r : ℕ × Act) → a ≡ (a ++ front) ++ r ∷ back → ⊥
too_long_acts a front back r e = let long = ap (λ (l : List (ℕ × Act)). length l) e in omega (arith, long, length-append (a ++ front) (r ∷ back), length-append a front)

pub steps_acted : EachActed
unfolding GrownBy
steps_acted a b nothing front back r e = absurd (too_long_acts a.notes.acted front back r e)
steps_acted a b (and_then {mid} steps step) front back r e = elim (step_acts mid b step) [
  | inl same ↦
      let c = steps_acted a mid steps front back r (sym same ∙ e) in
      record { old = c.old; new = c.new; before = c.before; step = c.step; after = and_then c.after step; was = c.was; has = c.has }
  | inr one ↦ elim (last_of back) [
    | inl none ↦
        let is = same_last mid.notes.acted (a.notes.acted ++ front) one.0 r
        (sym one.1 ∙ e ∙ ap (λ (l : List (ℕ × Act)). (a.notes.acted ++ front) ++ r ∷ l) none) in
        record { old = mid; new = b; before = steps; step = step; after = nothing; was = is.0; has = one.1 ∙ ap (λ (x : ℕ × Act). mid.notes.acted ++ x ∷ []) is.1 }
    | inr some ↦
        let split : (a.notes.acted ++ front) ++ r ∷ back ≡ ((a.notes.acted ++ front) ++ r ∷ some.0) ++ some.1 ∷ [] =
        ap (λ (l : List (ℕ × Act)). (a.notes.acted ++ front) ++ r ∷ l) some.2 ∙ sym (append_assoc (a.notes.acted ++ front) (r ∷ some.0) (some.1 ∷ [])) in
        let is = same_last mid.notes.acted ((a.notes.acted ++ front) ++ r ∷ some.0) one.0 some.1 (sym one.1 ∙ e ∙ split) in
        let c = steps_acted a mid steps front some.0 r is.0 in
        record { old = c.old; new = c.new; before = c.before; step = c.step; after = and_then c.after step; was = c.was; has = c.has }
  ]
]
