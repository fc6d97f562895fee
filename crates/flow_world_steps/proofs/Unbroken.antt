-- Whose file holds just what it is to hold.
use Rattle.std.proofs.Common.{◌≡◌, ◌⊎◌, inl, inr, ℕ, suc, ◌-◌, false, List, sym, ◌∙◌, subst, ap, arith}
use Rattle.std.specs.Prelude.{Option, Some, slice_get, slice_set}
use Rattle.cacao_site.specs.DiskCalls.{AllLeft, IsLeft}
use Rattle.run_records.specs.declared.act.Act.{Act}
use Rattle.run_records.specs.declared.record.Record.{Record}
use Rattle.slpf_actuator.specs.ActuatorView.{ActuatorView}
use Rattle.flow_world_steps.specs.Appends.{Tries}
use Rattle.flow_world_steps.specs.Appends.Tries.{done, failed, limited}
use Rattle.flow_world_steps.specs.Ready.{FiltersStand, HoldsActsWithUnsure, JournalStands}
use Rattle.flow_world_steps.specs.Sides.{HoldsWithUnsure}
use Rattle.flow_world_steps.specs.Steps.{Step, Steps}
use Rattle.flow_world_steps.specs.Steps.Step.{opens_clock, finds_run_used, asks_clock, finds_late, begins, moves, upgrades, tells, expires, says, fails_to_say}
use Rattle.flow_world_steps.specs.Steps.Step.{puts_first, resends, takes, finds_none, fails_to_take, drops, replies, ignores_reply, acts_on, repeats_reply, fails_to_act, wants_memory_now}
use Rattle.flow_world_steps.specs.Steps.Steps.{nothing, and_then}
use Rattle.flow_world_steps.specs.Unbroken.{AreFiltersSure, EachUnbroken, EndedByFilter, IsJournalSure}
use Rattle.flow_world_steps.specs.Unsure.{UnsureByStep}
use Rattle.flow_world_steps.specs.Worlds.{Notes, World, disk_failed}
use Rattle.flow_world_steps.proofs.Filters.{get_set, steps_ready_filters}
use Rattle.flow_world_steps.proofs.Grown.{steps_grow_filters}
use Rattle.flow_world_steps.proofs.Readiness.{steps_ready}
use Rattle.flow_world_steps.proofs.Unsure.{no_step, step_goes, unsure_by}

-- ---- the journal

pub journal_stands : (w : World) → IsJournalSure w → JournalStands w
journal_stands w is = record {
  engine = is.whole.engine;
  holds = subst (λ (o : Option Record). AllLeft 0 w.site.disk (HoldsWithUnsure w.engine.history.records o)) (sym is.sure)
      (λ told image left. (is.whole.engine.ready is.whole.whole told image left).0);
  sure = λ whole. is.sure;
}

journal : (a b : World) → IsJournalSure a → Steps a b → IsJournalSure b ⊎ ((r : Record) × UnsureByStep a b r)
journal a b is nothing = inl is
journal a b is (and_then {mid} steps step) = elim (journal a mid is steps) [
  | inl sure ↦ elim (step_goes mid b step) [
    | inl same ↦ inl (record {
      whole = record { engine = (steps_ready a b (journal_stands a is) (and_then steps step)).engine; whole = same.whole sure.whole.whole };
      sure = same.unsure ∙ sure.sure;
    })
    | inr fails ↦ inr (fails.r, unsure_by a mid b steps step sure.sure fails)
  ]
  | inr over ↦ absurd (no_step mid b disk_failed false over.1.phase step)
]

-- ---- the filters

pub filters_stand : (w : World) → AreFiltersSure w → FiltersStand w
filters_stand w is = record {
  each = λ k v there.
      let filter = is.filters.each k v there in
      record {
        ready = filter.ready;
        of_agent = filter.of_agent;
        holds = subst (λ (o : Option (ℕ × Act)). AllLeft (suc k) w.site.disk (HoldsActsWithUnsure (suc k) v.acts o)) (sym is.sure)
            (λ told image left. (filter.ready.images filter.whole told image (subst (λ (n : ℕ). IsLeft w.site.disk n w.site.disk.beat image) (sym filter.of_agent) left)).0);
      };
  sure = λ g. is.sure;
}

-- no filter is broken
abbrev pub AreWhole : List ActuatorView → Type 0
AreWhole filters = (k : ℕ) (v : ActuatorView) → slice_get filters k ≡ Some v → v.broken ≡ false

-- none broke, and no act is unsure that was not; or one refused
pub record StaysWhole (old new : World) : Type 0 where
  pub filters : AreWhole old.filters → AreWhole new.filters
  pub unsure : new.notes.unsure_act ≡ old.notes.unsure_act

same : (old new : World) → new.filters ≡ old.filters → new.notes.unsure_act ≡ old.notes.unsure_act → StaysWhole old new ⊎ EndedByFilter old new
same old new filters unsure = inl (record { filters = λ whole k v there. whole k v (subst (λ (l : List ActuatorView). slice_get l k ≡ Some v) filters there); unsure = unsure })

tried : (IsNext : Record → Type 0) (old new : World) → Tries IsNext old new → StaysWhole old new ⊎ EndedByFilter old new
tried IsNext old new (done is) = same old new is.filters (ap (λ (n : Notes). n.unsure_act) is.notes)
tried IsNext old new (failed is) = same old new is.filters (ap (λ (n : Notes). n.unsure_act) is.notes)
tried IsNext old new (limited what is) = same old new is.filters (ap (λ (n : Notes). n.unsure_act) is.notes)

set_whole : (filters : List ActuatorView) (k : ℕ) (w : ActuatorView) → w.broken ≡ false → AreWhole filters → AreWhole (slice_set filters k w)
set_whole filters k w whole all j v there = elim (get_set filters k j w v there) [
  | inl is ↦ subst (λ (x : ActuatorView). x.broken ≡ false) is.1 whole
  | inr was ↦ all j v was.1
]

pub step_stays : (old new : World) → Step old new → StaysWhole old new ⊎ EndedByFilter old new
step_stays old new (opens_clock answer is) = same old new is.goes.sides.filters (ap (λ (n : Notes). n.unsure_act) is.goes.notes)
step_stays old new (finds_run_used agent is) = same old new is.only.sides.filters (ap (λ (n : Notes). n.unsure_act) is.only.notes)
step_stays old new (asks_clock moment answer is) = same old new is.goes.sides.filters (ap (λ (n : Notes). n.unsure_act) is.goes.notes)
step_stays old new (finds_late moment is) = same old new is.only.sides.filters (ap (λ (n : Notes). n.unsure_act) is.only.notes)
step_stays old new (begins is) = tried _ old new is.tries
step_stays old new (moves is) = tried _ old new is.tries
step_stays old new (upgrades issue told is) = tried _ old new is.tries
step_stays old new (tells issue told is) = tried _ old new is.tries
step_stays old new (expires issue is) = tried _ old new is.tries
step_stays old new (says bytes is) = same old new is.speaks.sides.filters (ap (λ (n : Notes). n.unsure_act) is.speaks.notes)
step_stays old new (fails_to_say bytes is) = same old new is.speaks.sides.filters (ap (λ (n : Notes). n.unsure_act) is.speaks.notes)
step_stays old new (puts_first issue is) = same old new is.puts.filters (ap (λ (n : Notes). n.unsure_act) is.puts.notes)
step_stays old new (resends issue is) = same old new is.puts.filters (ap (λ (n : Notes). n.unsure_act) is.puts.notes)
step_stays old new (takes parcel is) = same old new is.sides.filters (ap (λ (n : Notes). n.unsure_act) is.notes)
step_stays old new (finds_none is) = same old new is.sides.filters (ap (λ (n : Notes). n.unsure_act) is.notes)
step_stays old new (fails_to_take is) = same old new is.sides.filters (ap (λ (n : Notes). n.unsure_act) is.notes)
step_stays old new (drops beat parcel is) = same old new is.ignores.filters (ap (λ (n : Notes). n.unsure_act) is.ignores.notes)
step_stays old new (replies beat parcel is) = tried _ old new is.tries
step_stays old new (ignores_reply beat parcel is) = same old new is.ignores.filters (ap (λ (n : Notes). n.unsure_act) is.ignores.notes)
step_stays old new (acts_on beat parcel v w is) = inl (record {
  filters = λ whole. subst AreWhole (sym is.filters) (set_whole old.filters (parcel.agent - 1) w is.filter.whole whole);
  unsure = ap (λ (n : Notes). n.unsure_act) is.notes;
})
step_stays old new (repeats_reply beat parcel v w is) = same old new is.ignores.filters (ap (λ (n : Notes). n.unsure_act) is.ignores.notes)
step_stays old new (fails_to_act beat parcel v w error cause is) = inr (record { old = old; before = nothing; beat = beat; parcel = parcel; v = v; w = w; error = error; cause = cause; fails = is })
step_stays old new (wants_memory_now is) = same old new is.only.sides.filters (ap (λ (n : Notes). n.unsure_act) is.only.notes)

before_all : (a b c : World) → Steps a b → Steps b c → Steps a c
before_all a b c one nothing = one
before_all a b c one (and_then {mid} two step) = and_then (before_all a b mid one two) step

filters : (a b : World) → AreFiltersSure a → Steps a b → AreFiltersSure b ⊎ EndedByFilter a b
filters a b is nothing = inl is
filters a b is (and_then {mid} steps step) = elim (filters a mid is steps) [
  | inl sure ↦ elim (step_stays mid b step) [
    | inl stays ↦
        let stand = steps_ready_filters a b (filters_stand a is) (and_then steps step) in
        inl (record {
          filters = record {
            few = let many = (steps_grow_filters a b (and_then steps step)).many in omega (arith, many, is.filters.few);
            each = λ k v there. record {
              ready = (stand.each k v there).ready;
              whole = stays.filters (λ j x at. (sure.filters.each j x at).whole) k v there;
              of_agent = (stand.each k v there).of_agent;
            };
          };
          sure = stays.unsure ∙ sure.sure;
        })
    | inr over ↦ inr (record {
      old = over.old;
      before = before_all a mid over.old steps over.before;
      beat = over.beat;
      parcel = over.parcel;
      v = over.v;
      w = over.w;
      error = over.error;
      cause = over.cause;
      fails = over.fails;
    })
  ]
  | inr over ↦ absurd (no_step mid b over.cause false over.fails.phase step)
]

pub steps_unbroken : EachUnbroken
steps_unbroken a b journal_sure filters_sure steps = record { journal = journal a b journal_sure steps; filters = filters a b filters_sure steps }
