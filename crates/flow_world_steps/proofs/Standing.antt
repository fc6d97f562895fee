-- The files stand between the calls of a session that goes on, and a run that has begun stays begun.
use Rattle.std.proofs.Common.{◌≡◌, ◌≢◌, ◌⊎◌, inl, inr, ℕ, zero, suc, ◌-◌, Bool, List, [], ◌∷◌, ◌++◌, length, refl, sym, ◌∙◌, subst, ap, arith}
use Rattle.std.specs.Prelude.{Some, slice_get, slice_set}
use Rattle.cacao_site.specs.DiskCalls.{GoesOn, KeepsDisk, StaysAt}
use Rattle.cacao_site.specs.View.{SiteView}
use Rattle.cacao_site.specs.declared.parcel.Parcel.{Parcel}
use Rattle.cacao_site.proofs.Beats.{goes_on-refl, goes_on-trans, stays-trans}
use Rattle.run_records.specs.declared.record.Record.{Record}
use Rattle.flow_engine.specs.HistoryView.{HistoryView}
use Rattle.flow_engine.specs.EngineView.{EngineView}
use Rattle.slpf_actuator.specs.ActuatorView.{ActuatorView}
use Rattle.flow_world_steps.specs.Appends.{Tries}
use Rattle.flow_world_steps.specs.Appends.Tries.{done, failed, limited}
use Rattle.flow_world_steps.specs.Sides.{FiltersReady, IsFilter, IsWhole}
use Rattle.flow_world_steps.specs.Stands.{AllStand, EachStands, EachUp}
use Rattle.flow_world_steps.specs.Steps.{ActsOn, PutsCommand, Step, Steps}
use Rattle.flow_world_steps.specs.Steps.Step.{opens_clock, finds_run_used, asks_clock, finds_late, begins, moves, upgrades, tells, expires, says, fails_to_say}
use Rattle.flow_world_steps.specs.Steps.Step.{puts_first, resends, takes, finds_none, fails_to_take, drops, replies, ignores_reply, acts_on, repeats_reply, fails_to_act, wants_memory_now}
use Rattle.flow_world_steps.specs.Steps.Steps.{nothing, and_then}
use Rattle.flow_world_steps.specs.Worlds.{Cause, IsGoing, Phase, World, refused}
use Rattle.flow_world_steps.proofs.Adding.{steps_add}
use Rattle.flow_world_steps.proofs.Readiness.{all_stays, stays_same}

-- ---- a session that goes on

going_as : (p q : Phase) → p ≡ q → IsGoing q → IsGoing p
going_as p q e g = subst IsGoing (sym e) g

-- a session that has refused does not go on
pub stopped : (P : Type 0) (p : Phase) (cause : Cause) (lacks : Bool) → p ≡ refused cause lacks → IsGoing p → P
stopped P p cause lacks e g = absurd (subst IsGoing e g)

-- each step begins at a world of a session that goes on
pub step_going : (old new : World) → Step old new → IsGoing old.phase
step_going old new (opens_clock answer is) = going_as old.phase _ is.phase tt
step_going old new (finds_run_used agent is) = going_as old.phase _ is.phase tt
step_going old new (asks_clock moment answer is) = going_as old.phase _ is.next.up_to_date.on_time.untold.idle.has_looked.phase tt
step_going old new (finds_late moment is) = going_as old.phase _ is.next.up_to_date.on_time.untold.idle.has_looked.phase tt
step_going old new (begins is) = going_as old.phase _ is.phase tt
step_going old new (moves is) = going_as old.phase _ is.has_looked.phase tt
step_going old new (upgrades issue told is) = going_as old.phase _ is.to_be_told.idle.has_looked.phase tt
step_going old new (tells issue told is) = going_as old.phase _ is.to_be_told.idle.has_looked.phase tt
step_going old new (expires issue is) = going_as old.phase _ is.overdue.untold.idle.has_looked.phase tt
step_going old new (says bytes is) = going_as old.phase _ is.speaks.phase tt
step_going old new (fails_to_say bytes is) = going_as old.phase _ is.speaks.phase tt
step_going old new (puts_first issue is) = going_as old.phase _ is.phase tt
step_going old new (resends issue is) = going_as old.phase _ is.due.on_time.untold.idle.has_looked.phase tt
step_going old new (takes parcel is) = going_as old.phase _ is.turn.phase tt
step_going old new (finds_none is) = going_as old.phase _ is.turn.phase tt
step_going old new (fails_to_take is) = going_as old.phase _ is.turn.phase tt
step_going old new (drops beat parcel is) = going_as old.phase _ is.phase tt
step_going old new (replies beat parcel is) = going_as old.phase _ is.holds_reply.phase tt
step_going old new (ignores_reply beat parcel is) = going_as old.phase _ is.holds_reply.phase tt
step_going old new (acts_on beat parcel v w is) = going_as old.phase _ is.holds_command.phase tt
step_going old new (repeats_reply beat parcel v w is) = going_as old.phase _ is.holds_command.phase tt
step_going old new (fails_to_act beat parcel v w error cause is) = going_as old.phase _ is.holds_command.phase tt
step_going old new (wants_memory_now is) = is.going

-- ---- the journal

whole_at : (v : EngineView) (old new : SiteView) → GoesOn old.disk new.disk → StaysAt old.disk new.disk 0 → IsWhole v old → IsWhole v new
whole_at v old new on stays is = record {
  engine = record {
    ready = λ whole. all_stays _ 0 old new on stays (is.engine.ready whole);
    history = is.engine.history;
    put = is.engine.put;
  };
  whole = is.whole;
}

whole_same : (old new : World) → GoesOn old.site.disk new.site.disk → StaysAt old.site.disk new.site.disk 0 → new.engine ≡ old.engine → IsWhole old.engine old.site → IsWhole new.engine new.site
whole_same old new on stays same is = subst (λ (v : EngineView). IsWhole v new.site) (sym same) (whole_at old.engine old.site new.site on stays is)

whole_kept : (old new : World) → KeepsDisk old.site.disk new.site.disk → new.engine ≡ old.engine → IsWhole old.engine old.site → IsWhole new.engine new.site
whole_kept old new keeps = whole_same old new keeps.goes_on (keeps.stays 0)

goes_same : (old new : SiteView) → new ≡ old → GoesOn old.disk new.disk
goes_same old new e = subst (λ (s : SiteView). GoesOn old.disk s.disk) (sym e) (goes_on-refl old.disk)

whole_still : (old new : World) → new.site ≡ old.site → new.engine ≡ old.engine → IsWhole old.engine old.site → IsWhole new.engine new.site
whole_still old new e = whole_same old new (goes_same old.site new.site e) (stays_same old.site new.site 0 e)

whole_tried : (IsNext : Record → Type 0) (old new : World) → Tries IsNext old new → IsGoing new.phase → IsWhole new.engine new.site
whole_tried IsNext old new (done is) g = record { engine = is.engine; whole = ap (λ (h : HistoryView). h.broken) is.appends.adds.view }
whole_tried IsNext old new (failed is) g = stopped _ new.phase _ _ is.phase g
whole_tried IsNext old new (limited what is) g = stopped _ new.phase _ _ is.phase g

whole_put : (old new : World) (issue : ℕ) → PutsCommand issue old new → IsWhole new.engine new.site
whole_put old new issue is = record { engine = is.engine; whole = ap (λ (v : EngineView). v.history.broken) is.sends.view ∙ is.sends.whole }

whole_acted : (old new : World) (beat : ℕ) (parcel : Parcel) (v w : ActuatorView) → ActsOn beat parcel v w old new → IsWhole old.engine old.site → IsWhole new.engine new.site
whole_acted old new beat parcel v w is =
    let file = is.acts.offers.adds.file in
    let disk = is.acts.puts.disk.disk in
    whole_same old new (goes_on-trans file.each.goes_on disk.goes_on)
    (stays-trans file.each.goes_on disk.goes_on (file.others 0 (λ e. absurd (omega (arith, e, is.holds_command.filter.ready.low)))) (disk.stays 0))
    is.engine

pub step_whole : (old new : World) → IsWhole old.engine old.site → Step old new → IsGoing new.phase → IsWhole new.engine new.site
step_whole old new was (opens_clock answer is) g = whole_kept old new is.goes.reaches.disk.disk is.goes.sides.engine was
step_whole old new was (finds_run_used agent is) g = stopped _ new.phase _ _ is.only.phase g
step_whole old new was (asks_clock moment answer is) g = whole_kept old new is.goes.reaches.disk.disk is.goes.sides.engine was
step_whole old new was (finds_late moment is) g = stopped _ new.phase _ _ is.only.phase g
step_whole old new was (begins is) g = whole_tried _ old new is.tries g
step_whole old new was (moves is) g = whole_tried _ old new is.tries g
step_whole old new was (upgrades issue told is) g = whole_tried _ old new is.tries g
step_whole old new was (tells issue told is) g = whole_tried _ old new is.tries g
step_whole old new was (expires issue is) g = whole_tried _ old new is.tries g
step_whole old new was (says bytes is) g = whole_kept old new is.speaks.only.disk is.speaks.sides.engine was
step_whole old new was (fails_to_say bytes is) g = stopped _ new.phase _ _ is.phase g
step_whole old new was (puts_first issue is) g = whole_put old new issue is.puts
step_whole old new was (resends issue is) g = whole_put old new issue is.puts
step_whole old new was (takes parcel is) g = whole_kept old new is.only.disk.disk is.sides.engine was
step_whole old new was (finds_none is) g = whole_kept old new is.only.disk.disk is.sides.engine was
step_whole old new was (fails_to_take is) g = stopped _ new.phase _ _ is.phase g
step_whole old new was (drops beat parcel is) g = whole_still old new is.site is.ignores.engine was
step_whole old new was (replies beat parcel is) g = whole_tried _ old new is.tries g
step_whole old new was (ignores_reply beat parcel is) g = whole_still old new is.site is.ignores.engine was
step_whole old new was (acts_on beat parcel v w is) g = whole_acted old new beat parcel v w is was
step_whole old new was (repeats_reply beat parcel v w is) g = whole_kept old new is.repeats.puts.disk.disk is.ignores.engine was
step_whole old new was (fails_to_act beat parcel v w error cause is) g = stopped _ new.phase _ _ is.phase g
step_whole old new was (wants_memory_now is) g = stopped _ new.phase _ _ is.only.phase g

-- ---- the filters

filter_at : (v : ActuatorView) (agent : ℕ) (old new : SiteView) → GoesOn old.disk new.disk → StaysAt old.disk new.disk agent → IsFilter v agent old → IsFilter v agent new
filter_at v agent old new on stays is = record {
  ready = record {
    low = is.ready.low;
    high = is.ready.high;
    history = is.ready.history;
    images = λ whole. all_stays _ v.agent old new on (subst (λ (n : ℕ). StaysAt old.disk new.disk n) (sym is.of_agent) stays) (is.ready.images whole);
  };
  whole = is.whole;
  of_agent = is.of_agent;
}

is_not_zero : (k : ℕ) → suc k ≢ 0
is_not_zero k e = absurd (omega (arith, e))

filters_same : (old new : World) → GoesOn old.site.disk new.site.disk → ((file : ℕ) → file ≢ 0 → StaysAt old.site.disk new.site.disk file) → new.filters ≡ old.filters
    → FiltersReady old.filters old.site → FiltersReady new.filters new.site
filters_same old new on stays same is = subst (λ (l : List ActuatorView). FiltersReady l new.site) (sym same) (record {
  few = is.few;
  each = λ k v there. filter_at v (suc k) old.site new.site on (stays (suc k) (is_not_zero k)) (is.each k v there);
})

filters_kept : (old new : World) → KeepsDisk old.site.disk new.site.disk → new.filters ≡ old.filters → FiltersReady old.filters old.site → FiltersReady new.filters new.site
filters_kept old new keeps = filters_same old new keeps.goes_on (λ file ne. keeps.stays file)

filters_still : (old new : World) → new.site ≡ old.site → new.filters ≡ old.filters → FiltersReady old.filters old.site → FiltersReady new.filters new.site
filters_still old new e = filters_same old new (goes_same old.site new.site e) (λ file ne. stays_same old.site new.site file e)

filters_tried : (IsNext : Record → Type 0) (old new : World) → Tries IsNext old new → FiltersReady old.filters old.site → IsGoing new.phase → FiltersReady new.filters new.site
filters_tried IsNext old new (done is) was g = filters_same old new is.appends.adds.offers.file.each.goes_on is.appends.adds.offers.file.others is.filters was
filters_tried IsNext old new (failed is) was g = stopped _ new.phase _ _ is.phase g
filters_tried IsNext old new (limited what is) was g = stopped _ new.phase _ _ is.phase g

length_set : {T : Type 0} (xs : List T) (k : ℕ) (y : T) → length (slice_set xs k y) ≡ length xs
length_set [] zero y = refl
length_set [] (suc k) y = refl
length_set (x ∷ xs) zero y = refl
length_set (x ∷ xs) (suc k) y = ap suc (length_set xs k y)

get_set : {T : Type 0} (xs : List T) (k j : ℕ) (y x : T) → slice_get (slice_set xs k y) j ≡ Some x → ((j ≡ k) × (y ≡ x)) ⊎ ((j ≢ k) × (slice_get xs j ≡ Some x))
get_set [] zero zero y x is = absurd (cc)
get_set [] zero (suc j) y x is = absurd (cc)
get_set [] (suc k) zero y x is = absurd (cc)
get_set [] (suc k) (suc j) y x is = absurd (cc)
get_set (z ∷ xs) zero zero y x is = inl (refl, cc)
get_set (z ∷ xs) zero (suc j) y x is = inr (λ e. absurd (omega (arith, e)), is)
get_set (z ∷ xs) (suc k) zero y x is = inr (λ e. absurd (omega (arith, e)), is)
get_set (z ∷ xs) (suc k) (suc j) y x is = elim (get_set xs k j y x is) [
  | inl new ↦ inl (ap suc new.0, new.1)
  | inr old ↦ inr (λ e. old.0 (omega (arith, e)), old.1)
]

filters_acted : (old new : World) (beat : ℕ) (parcel : Parcel) (v w : ActuatorView) → ActsOn beat parcel v w old new → FiltersReady old.filters old.site → FiltersReady new.filters new.site
filters_acted old new beat parcel v w is was =
    let file = is.acts.offers.adds.file in
    let disk = is.acts.puts.disk.disk in
    let low = is.holds_command.addressed.low in
    let own : v.agent ≡ parcel.agent = is.holds_command.filter.of_agent in
    subst (λ (l : List ActuatorView). FiltersReady l new.site) (sym is.filters) (record {
      few = omega (arith, length_set old.filters (parcel.agent - 1) w, was.few);
      each = λ k x there. elim (get_set old.filters (parcel.agent - 1) k w x there) [
        | inl here ↦
            let e : parcel.agent ≡ suc k = omega (arith, here.0, low) in
            subst (λ (y : ActuatorView). IsFilter y (suc k) new.site) here.1 (subst (λ (n : ℕ). IsFilter w n new.site) e is.filter)
        | inr other ↦
            filter_at x (suc k) old.site new.site (goes_on-trans file.each.goes_on disk.goes_on)
            (stays-trans file.each.goes_on disk.goes_on (file.others (suc k) (λ e. absurd (other.0 (omega (arith, e, own))))) (disk.stays (suc k)))
            (was.each k x other.1)
      ];
    })

pub step_filters : (old new : World) → FiltersReady old.filters old.site → Step old new → IsGoing new.phase → FiltersReady new.filters new.site
step_filters old new was (opens_clock answer is) g = filters_kept old new is.goes.reaches.disk.disk is.goes.sides.filters was
step_filters old new was (finds_run_used agent is) g = stopped _ new.phase _ _ is.only.phase g
step_filters old new was (asks_clock moment answer is) g = filters_kept old new is.goes.reaches.disk.disk is.goes.sides.filters was
step_filters old new was (finds_late moment is) g = stopped _ new.phase _ _ is.only.phase g
step_filters old new was (begins is) g = filters_tried _ old new is.tries was g
step_filters old new was (moves is) g = filters_tried _ old new is.tries was g
step_filters old new was (upgrades issue told is) g = filters_tried _ old new is.tries was g
step_filters old new was (tells issue told is) g = filters_tried _ old new is.tries was g
step_filters old new was (expires issue is) g = filters_tried _ old new is.tries was g
step_filters old new was (says bytes is) g = filters_kept old new is.speaks.only.disk is.speaks.sides.filters was
step_filters old new was (fails_to_say bytes is) g = stopped _ new.phase _ _ is.phase g
step_filters old new was (puts_first issue is) g = filters_kept old new is.puts.sends.put.disk.disk is.puts.filters was
step_filters old new was (resends issue is) g = filters_kept old new is.puts.sends.put.disk.disk is.puts.filters was
step_filters old new was (takes parcel is) g = filters_kept old new is.only.disk.disk is.sides.filters was
step_filters old new was (finds_none is) g = filters_kept old new is.only.disk.disk is.sides.filters was
step_filters old new was (fails_to_take is) g = stopped _ new.phase _ _ is.phase g
step_filters old new was (drops beat parcel is) g = filters_still old new is.site is.ignores.filters was
step_filters old new was (replies beat parcel is) g = filters_tried _ old new is.tries was g
step_filters old new was (ignores_reply beat parcel is) g = filters_still old new is.site is.ignores.filters was
step_filters old new was (acts_on beat parcel v w is) g = filters_acted old new beat parcel v w is was
step_filters old new was (repeats_reply beat parcel v w is) g = filters_kept old new is.repeats.puts.disk.disk is.ignores.filters was
step_filters old new was (fails_to_act beat parcel v w error cause is) g = stopped _ new.phase _ _ is.phase g
step_filters old new was (wants_memory_now is) g = stopped _ new.phase _ _ is.only.phase g

-- ---- all

pub step_stands : (old new : World) → AllStand old → Step old new → IsGoing new.phase → AllStand new
step_stands old new was step g = record {
  engine = step_whole old new was.engine step g;
  filters = step_filters old new was.filters step g;
}

pub steps_stand : EachStands
steps_stand a b is nothing g = is
steps_stand a b is (and_then {mid} steps step) g = step_stands mid b (steps_stand a mid is steps (step_going mid b step)) step g

steps_whole : (a b : World) → IsWhole a.engine a.site → Steps a b → IsGoing b.phase → IsWhole b.engine b.site
steps_whole a b is nothing g = is
steps_whole a b is (and_then {mid} steps step) g = step_whole mid b (steps_whole a mid is steps (step_going mid b step)) step g

some_more : {T : Type 0} (xs ys : List T) → xs ≢ [] → xs ++ ys ≢ []
some_more {T} [] ys some e = absurd (some refl)
some_more {T} (x ∷ xs) ys some e = let long = ap (λ (l : List T). length l) e in absurd (omega (arith, long))

pub steps_up : EachUp
steps_up a b is steps g = record {
  has_file = steps_whole a b is.has_file steps g;
  begun = λ none. some_more a.engine.history.records _ is.begun (sym (steps_add a b steps).is ∙ none);
}
