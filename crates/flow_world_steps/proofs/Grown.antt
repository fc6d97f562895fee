-- What the filters gain.
use Rattle.std.proofs.Common.{◌≡◌, ◌≢◌, inl, inr, ℕ, zero, suc, ◌-◌, ◌≤◌, Bool, true, false, List, [], ◌∷◌, ◌++◌, length, refl, sym, ◌∙◌, subst, ap, arith}
use Rattle.std.specs.Prelude.{Some, nat_eq, slice_get, slice_set, if◌then◌else◌}
use Rattle.std.proofs.lemmas.List.{append_assoc, append-nil}
use Rattle.run_records.specs.declared.act.Act.{Act}
use Rattle.run_records.specs.declared.record.Record.{Record}
use Rattle.flow_laws.proofs.Basics.{same_or_not, same_some}
use Rattle.slpf_actuator.specs.ActuatorView.{ActuatorView}
use Rattle.flow_world_steps.specs.Appends.{Tries}
use Rattle.flow_world_steps.specs.Appends.Tries.{done, failed, limited}
use Rattle.flow_world_steps.specs.Grown.{EachFiltersGrow, FiltersGrow, HasGrown, acts_of}
use Rattle.flow_world_steps.specs.Steps.{Step}
use Rattle.flow_world_steps.specs.Steps.Step.{opens_clock, finds_run_used, asks_clock, finds_late, begins, moves, upgrades, tells, expires, says, fails_to_say}
use Rattle.flow_world_steps.specs.Steps.Step.{puts_first, resends, takes, finds_none, fails_to_take, drops, replies, ignores_reply, acts_on, repeats_reply, fails_to_act, wants_memory_now}
use Rattle.flow_world_steps.specs.Steps.Steps.{nothing, and_then}
use Rattle.flow_world_steps.specs.Worlds.{Notes, World}
use Rattle.flow_world_steps.proofs.Failing.{fails_notes}
use Rattle.flow_world_steps.proofs.Handling.{get_set_other, get_set_same}
use Rattle.flow_world_steps.proofs.Issues.{eq_apart, eq_itself}

acts_append : (agent : ℕ) (xs ys : List (ℕ × Act)) → acts_of agent (xs ++ ys) ≡ acts_of agent xs ++ acts_of agent ys
acts_append agent [] ys = refl
acts_append agent (x ∷ xs) ys = by (nat_eq x.0 agent) (acts_append agent xs ys)
  where
    by : (b : Bool) → acts_of agent (xs ++ ys) ≡ acts_of agent xs ++ acts_of agent ys
        → (if b then x.1 ∷ acts_of agent (xs ++ ys) else acts_of agent (xs ++ ys)) ≡ (if b then x.1 ∷ acts_of agent xs else acts_of agent xs) ++ acts_of agent ys
    by true rest = ap (λ (l : List Act). x.1 ∷ l) rest
    by false rest = rest

one_own : (agent : ℕ) (act : Act) → acts_of agent ((agent, act) ∷ []) ≡ act ∷ []
one_own agent act = ap (λ (b : Bool). if b then act ∷ [] else []) (eq_itself agent)

one_other : (agent other : ℕ) (act : Act) → other ≢ agent → acts_of agent ((other, act) ∷ []) ≡ []
one_other agent other act ne = ap (λ (b : Bool). if b then act ∷ [] else []) (eq_apart other agent ne)

length_set : {T : Type 0} (xs : List T) (k : ℕ) (w : T) → length (slice_set xs k w) ≡ length xs
length_set [] zero w = refl
length_set [] (suc k) w = refl
length_set (x ∷ xs) zero w = omega arith
length_set (x ∷ xs) (suc k) w = let rest = length_set xs k w in omega (arith, rest)

-- no act was appended
same : (old new : World) → new.filters ≡ old.filters → new.notes.acted ≡ old.notes.acted → FiltersGrow old new
same old new filters acted = record {
  acted = [];
  acts = acted ∙ sym (append-nil old.notes.acted);
  many = ap (λ (l : List ActuatorView). length l) filters;
  each = λ k v there. record {
    now = v;
    there = subst (λ (l : List ActuatorView). slice_get l k ≡ Some v) (sym filters) there;
    agent = refl;
    has = sym (append-nil v.acts);
  };
}

-- one filter is another, of the same agent, with these acts more
one : (old new : World) (agent : ℕ) (v w : ActuatorView) (acted : List (ℕ × Act)) → 1 ≤ agent → slice_get old.filters (agent - 1) ≡ Some v → new.filters ≡ slice_set old.filters (agent - 1) w
    → new.notes.acted ≡ old.notes.acted ++ acted → w.agent ≡ v.agent → w.acts ≡ v.acts ++ acts_of agent acted → ((other : ℕ) → other ≢ agent → acts_of other acted ≡ []) → FiltersGrow old new
one old new agent v w acted low was filters notes same_agent more others = record {
  acted = acted;
  acts = notes;
  many = ap (λ (l : List ActuatorView). length l) filters ∙ length_set old.filters (agent - 1) w;
  each = λ k x there. elim (same_or_not k (agent - 1)) [
    | inl e ↦
        let number : agent ≡ suc k = omega (arith, e, low) in
        let x_is : v ≡ x = same_some (sym was ∙ ap (λ (n : ℕ). slice_get old.filters n) (sym e) ∙ there) in
        subst (λ (y : ActuatorView). HasGrown y new.filters k (acts_of (suc k) acted)) x_is (record {
          now = w;
          there = ap (λ (l : List ActuatorView). slice_get l k) filters ∙ ap (λ (n : ℕ). slice_get (slice_set old.filters (agent - 1) w) n) e ∙ get_set_same old.filters (agent - 1) v w was;
          agent = same_agent;
          has = subst (λ (n : ℕ). w.acts ≡ v.acts ++ acts_of n acted) number more;
        })
    | inr ne ↦ record {
      now = x;
      there = ap (λ (l : List ActuatorView). slice_get l k) filters ∙ get_set_other old.filters (agent - 1) k w ne ∙ there;
      agent = refl;
      has = sym (append-nil x.acts) ∙ ap (λ (l : List Act). x.acts ++ l) (sym (others (suc k) (λ e. ne (omega (arith, e)))));
    }
  ];
}

tried : (IsNext : Record → Type 0) (old new : World) → Tries IsNext old new → FiltersGrow old new
tried IsNext old new (done is) = same old new is.filters (ap (λ (n : Notes). n.acted) is.notes)
tried IsNext old new (failed is) = same old new is.filters (ap (λ (n : Notes). n.acted) is.notes)
tried IsNext old new (limited what is) = same old new is.filters (ap (λ (n : Notes). n.acted) is.notes)

pub step_grows : (old new : World) → Step old new → FiltersGrow old new
step_grows old new (opens_clock answer is) = same old new is.goes.sides.filters (ap (λ (n : Notes). n.acted) is.goes.notes)
step_grows old new (finds_run_used agent is) = same old new is.only.sides.filters (ap (λ (n : Notes). n.acted) is.only.notes)
step_grows old new (asks_clock moment answer is) = same old new is.goes.sides.filters (ap (λ (n : Notes). n.acted) is.goes.notes)
step_grows old new (finds_late moment is) = same old new is.only.sides.filters (ap (λ (n : Notes). n.acted) is.only.notes)
step_grows old new (begins is) = tried _ old new is.tries
step_grows old new (moves is) = tried _ old new is.tries
step_grows old new (upgrades issue told is) = tried _ old new is.tries
step_grows old new (tells issue told is) = tried _ old new is.tries
step_grows old new (expires issue is) = tried _ old new is.tries
step_grows old new (says bytes is) = same old new is.speaks.sides.filters (ap (λ (n : Notes). n.acted) is.speaks.notes)
step_grows old new (fails_to_say bytes is) = same old new is.speaks.sides.filters (ap (λ (n : Notes). n.acted) is.speaks.notes)
step_grows old new (puts_first issue is) = same old new is.puts.filters (ap (λ (n : Notes). n.acted) is.puts.notes)
step_grows old new (resends issue is) = same old new is.puts.filters (ap (λ (n : Notes). n.acted) is.puts.notes)
step_grows old new (takes parcel is) = same old new is.sides.filters (ap (λ (n : Notes). n.acted) is.notes)
step_grows old new (finds_none is) = same old new is.sides.filters (ap (λ (n : Notes). n.acted) is.notes)
step_grows old new (fails_to_take is) = same old new is.sides.filters (ap (λ (n : Notes). n.acted) is.notes)
step_grows old new (drops beat parcel is) = same old new is.ignores.filters (ap (λ (n : Notes). n.acted) is.ignores.notes)
step_grows old new (replies beat parcel is) = tried _ old new is.tries
step_grows old new (ignores_reply beat parcel is) = same old new is.ignores.filters (ap (λ (n : Notes). n.acted) is.ignores.notes)
step_grows old new (acts_on beat parcel v w is) =
    let held = is.holds_command in
    let acts_are = ap (λ (x : ActuatorView). x.acts) is.acts.view in
    one old new parcel.agent v w _ held.addressed.low held.there is.filters (ap (λ (n : Notes). n.acted) is.notes) (ap (λ (x : ActuatorView). x.agent) is.acts.view)
    (acts_are ∙ ap (λ (l : List Act). v.acts ++ l) (sym (one_own parcel.agent _))) (λ other ne. one_other other parcel.agent _ (λ e. ne (sym e)))
step_grows old new (repeats_reply beat parcel v w is) = same old new is.ignores.filters (ap (λ (n : Notes). n.acted) is.ignores.notes)
step_grows old new (fails_to_act beat parcel v w error cause is) =
    let held = is.holds_command in
    let notes : new.notes.acted ≡ old.notes.acted = ap (λ (n : Notes). n.acted) (fails_notes error parcel v old new is.notes) in
    one old new parcel.agent v w [] held.addressed.low held.there is.filters (notes ∙ sym (append-nil old.notes.acted)) (ap (λ (x : ActuatorView). x.agent) is.refuses.view)
    (ap (λ (x : ActuatorView). x.acts) is.refuses.view ∙ sym (append-nil v.acts)) (λ other ne. refl)
step_grows old new (wants_memory_now is) = same old new is.only.sides.filters (ap (λ (n : Notes). n.acted) is.only.notes)

pub grow-trans : (a b c : World) → FiltersGrow a b → FiltersGrow b c → FiltersGrow a c
grow-trans a b c p q = record {
  acted = p.acted ++ q.acted;
  acts = q.acts ∙ ap (λ (l : List (ℕ × Act)). l ++ q.acted) p.acts ∙ append_assoc a.notes.acted p.acted q.acted;
  many = q.many ∙ p.many;
  each = λ k v there.
      let x = p.each k v there in
      let y = q.each k x.now x.there in
      record {
        now = y.now;
        there = y.there;
        agent = y.agent ∙ x.agent;
        has = y.has ∙ ap (λ (l : List Act). l ++ acts_of (suc k) q.acted) x.has ∙ append_assoc v.acts (acts_of (suc k) p.acted) (acts_of (suc k) q.acted)
            ∙ ap (λ (l : List Act). v.acts ++ l) (sym (acts_append (suc k) p.acted q.acted));
      };
}

pub steps_grow_filters : EachFiltersGrow
steps_grow_filters a b nothing = same a a refl refl
steps_grow_filters a b (and_then {mid} steps step) = grow-trans a mid b (steps_grow_filters a mid steps) (step_grows mid b step)
