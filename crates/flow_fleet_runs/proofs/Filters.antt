-- While a fleet goes on, each image of a filter's file stands for its acts.
use Rattle.std.proofs.Common.{◌≡◌, inl, inr, ℕ, List, sym, ◌∙◌, subst, ap, IsTrue, arith}
use Rattle.std.specs.Prelude.{None}
use Rattle.cacao_site.specs.DiskCalls.{KeepsDisk}
use Rattle.cacao_site.specs.View.{SiteView}
use Rattle.slpf_actuator.specs.ActuatorView.{ActuatorView, IsReady}
use Rattle.flow_world_steps.specs.Sides.{FiltersReady}
use Rattle.flow_world_steps.specs.Steps.{Step}
use Rattle.flow_world_steps.specs.Steps.Step.{begins as one_begins, moves as one_moves, expires as one_expires, puts_first as one_puts_first, resends as one_resends, replies as one_replies}
use Rattle.flow_world_steps.specs.Steps.Step.{acts_on as one_acts_on, repeats_reply as one_repeats, fails_to_act as one_fails_to_act}
use Rattle.flow_world_steps.specs.Steps.Steps.{nothing as no_step, and_then as then_step}
use Rattle.flow_world_steps.specs.Unbroken.{AreFiltersSure}
use Rattle.flow_world_steps.specs.Worlds.{IsGoing, World}
use Rattle.flow_world_steps.proofs.Filters.{ready_stays, step_filters}
use Rattle.flow_world_steps.proofs.Grown.{steps_grow_filters}
use Rattle.flow_world_steps.proofs.Unbroken.{filters_stand, step_stays}
use Rattle.flow_fleet_laws.specs.Views.{seen_from}
use Rattle.flow_fleet_laws.proofs.Seen.{filter_file}
use Rattle.flow_fleet_steps.specs.Openings.{IsFleetOpened, Runs}
use Rattle.flow_fleet_steps.specs.Steps.{DoesAt, FiltersDo, FleetStep, FleetSteps, SameSides}
use Rattle.flow_fleet_steps.specs.Steps.FleetStep.{opens_clock, finds_run_used, asks_clock, finds_late, begins, moves, expires, says, fails_to_say, puts_first, resends}
use Rattle.flow_fleet_steps.specs.Steps.FleetStep.{takes, finds_none, fails_to_take, drops, replies, ignores_reply, acts_on, repeats_reply, fails_to_act, wants_memory_now}
use Rattle.flow_fleet_steps.specs.Steps.FleetSteps.{nothing, and_then}
use Rattle.flow_fleet_steps.specs.Worlds.{FleetWorld, Shared, part}
use Rattle.flow_fleet_steps.proofs.Spending.{fleet_step_going}

-- ---- in the eyes of a run

ready_seen : (place : ℕ) (v : ActuatorView) (site : SiteView) → IsReady v site → IsReady v (seen_from place site)
ready_seen place v site is = record {
  low = is.low;
  high = is.high;
  history = is.history;
  images = λ whole told image left.
      is.images whole told image (subst (λ (n : ℕ). IsTrue (site.disk.left n site.disk.beat image)) (filter_file place v.agent is.low is.high) left);
}

ready_back : (place : ℕ) (v : ActuatorView) (site : SiteView) → IsReady v (seen_from place site) → IsReady v site
ready_back place v site is = record {
  low = is.low;
  high = is.high;
  history = is.history;
  images = λ whole told image left.
      is.images whole told image (subst (λ (n : ℕ). IsTrue (site.disk.left n site.disk.beat image)) (sym (filter_file place v.agent is.low is.high)) left);
}

pub filters_seen : (place : ℕ) (filters : List ActuatorView) (site : SiteView) → FiltersReady filters site → FiltersReady filters (seen_from place site)
filters_seen place filters site is = record {
  few = is.few;
  each = λ k v there. let f = is.each k v there in record { ready = ready_seen place v site f.ready; whole = f.whole; of_agent = f.of_agent };
}

filters_back : (place : ℕ) (filters : List ActuatorView) (site : SiteView) → FiltersReady filters (seen_from place site) → FiltersReady filters site
filters_back place filters site is = record {
  few = is.few;
  each = λ k v there. let f = is.each k v there in record { ready = ready_back place v site f.ready; whole = f.whole; of_agent = f.of_agent };
}

-- ---- a session's step

one_step : (x y : World) → AreFiltersSure x → Step x y → IsGoing y.phase → AreFiltersSure y
one_step x y sure step going = elim (step_stays x y step) [
  | inl stays ↦
      let stand = step_filters x y (filters_stand x sure) step in
      record {
        filters = record {
          few = let many = (steps_grow_filters x y (then_step no_step step)).many in let few = sure.filters.few in omega (arith, many, few);
          each = λ k v there. record {
            ready = (stand.each k v there).ready;
            whole = stays.filters (λ j z at. (sure.filters.each j z at).whole) k v there;
            of_agent = (stand.each k v there).of_agent;
          };
        };
        sure = stays.unsure ∙ sure.sure;
      }
  | inr over ↦ absurd (subst IsGoing over.fails.phase going)
]

-- ---- a fleet's

-- each filter's file holds its acts, and no act is unsure
pub record AreSure (w : FleetWorld) : Type 0 where
  pub filters : FiltersReady w.filters w.site
  pub sure : w.notes.unsure_act ≡ None

quiet : (old new : FleetWorld) → KeepsDisk old.site.disk new.site.disk → SameSides old new → new.notes.unsure_act ≡ old.notes.unsure_act → AreSure old → AreSure new
quiet old new keeps sides unsure was = record {
  filters = subst (λ (l : List ActuatorView). FiltersReady l new.site) (sym sides.filters) (record {
    few = was.filters.few;
    each = λ k v there.
        let f = was.filters.each k v there in
        record { ready = ready_stays v old.site new.site keeps.goes_on (keeps.stays v.agent) f.ready; whole = f.whole; of_agent = f.of_agent };
  });
  sure = unsure ∙ was.sure;
}

same : (old new : FleetWorld) → new.site ≡ old.site → SameSides old new → new.notes.unsure_act ≡ old.notes.unsure_act → AreSure old → AreSure new
same old new site sides unsure was = record {
  filters = subst (λ (l : List ActuatorView). FiltersReady l new.site) (sym sides.filters) (subst (λ (s : SiteView). FiltersReady old.filters s) (sym site) was.filters);
  sure = unsure ∙ was.sure;
}

same_notes : (old new : FleetWorld) → new.notes ≡ old.notes → new.notes.unsure_act ≡ old.notes.unsure_act
same_notes old new e = ap (λ (n : Shared). n.unsure_act) e

one_run : (Do : World → World → Type 0) (place : ℕ) (old new : FleetWorld) (is : DoesAt Do place old new) → Step (part place is.v (old.own place) old) (part place is.w is.own new)
    → IsGoing new.phase → AreSure old → AreSure new
one_run Do place old new is step going was =
    let sure = one_step (part place is.v (old.own place) old) (part place is.w is.own new) (record { filters = filters_seen place old.filters old.site was.filters; sure = was.sure }) step going in
    record { filters = filters_back place new.filters new.site sure.filters; sure = sure.sure }

by_filter : (Do : World → World → Type 0) (old new : FleetWorld) (is : FiltersDo Do old new) → Step (part 0 is.v (old.own 0) old) (part 0 is.v (old.own 0) new) → IsGoing new.phase → AreSure old → AreSure new
by_filter Do old new is step going was =
    let sure = one_step (part 0 is.v (old.own 0) old) (part 0 is.v (old.own 0) new) (record { filters = filters_seen 0 old.filters old.site was.filters; sure = was.sure }) step going in
    record { filters = filters_back 0 new.filters new.site sure.filters; sure = sure.sure }

step_sure : (old new : FleetWorld) → FleetStep old new → IsGoing new.phase → AreSure old → AreSure new
step_sure old new (opens_clock answer is) going = quiet old new is.goes.reaches.disk.disk is.goes.sides (ap (λ (n : Shared). n.unsure_act) is.goes.notes)
step_sure old new (finds_run_used place agent is) going = same old new is.only.site is.only.sides (same_notes old new is.only.notes)
step_sure old new (asks_clock moment answer is) going = quiet old new is.goes.reaches.disk.disk is.goes.sides (ap (λ (n : Shared). n.unsure_act) is.goes.notes)
step_sure old new (finds_late moment is) going = same old new is.only.site is.only.sides (same_notes old new is.only.notes)
step_sure old new (begins place is) going = one_run _ place old new is.does (one_begins is.does.does) going
step_sure old new (moves place is) going = one_run _ place old new is.does (one_moves is.does.does) going
step_sure old new (expires place issue is) going = one_run _ place old new is.does (one_expires issue is.does.does) going
step_sure old new (says place v bytes is) going = quiet old new is.speaks.only.disk is.speaks.sides (same_notes old new is.speaks.notes)
step_sure old new (fails_to_say place v bytes is) going = quiet old new is.speaks.only.disk is.speaks.sides (same_notes old new is.speaks.notes)
step_sure old new (puts_first place issue is) going = one_run _ place old new is.does (one_puts_first issue is.does.does) going
step_sure old new (resends place issue is) going = one_run _ place old new is.does (one_resends issue is.does.does) going
step_sure old new (takes parcel is) going = quiet old new is.only.disk.disk is.sides (same_notes old new is.notes)
step_sure old new (finds_none is) going = quiet old new is.only.disk.disk is.sides (same_notes old new is.notes)
step_sure old new (fails_to_take is) going = quiet old new is.only.disk.disk is.sides (same_notes old new is.notes)
step_sure old new (drops beat parcel is) going = same old new is.site is.ignores.sides (ap (λ (n : Shared). n.unsure_act) is.ignores.notes)
step_sure old new (replies beat parcel place is) going = one_run _ place old new is.does (one_replies beat parcel is.does.does) going
step_sure old new (ignores_reply beat parcel is) going = same old new is.site is.ignores.sides (ap (λ (n : Shared). n.unsure_act) is.ignores.notes)
step_sure old new (acts_on beat parcel v w is) going = by_filter _ old new is (one_acts_on beat parcel v w is.does) going
step_sure old new (repeats_reply beat parcel v w is) going = by_filter _ old new is (one_repeats beat parcel v w is.does) going
step_sure old new (fails_to_act beat parcel v w error cause is) going = by_filter _ old new is (one_fails_to_act beat parcel v w error cause is.does) going
step_sure old new (wants_memory_now is) going = same old new is.only.site is.only.sides (same_notes old new is.only.notes)

pub steps_sure : (a b : FleetWorld) (runs : Runs) (most : ℕ) → IsFleetOpened a runs most → FleetSteps a b → IsGoing b.phase → AreSure b
steps_sure a b runs most first nothing going = record {
  filters = record { few = let all = first.filters.all in omega (arith, all); each = first.filters.each };
  sure = ap (λ (n : Shared). n.unsure_act) first.notes;
}
steps_sure a b runs most first (and_then {mid} steps step) going = step_sure mid b step going (steps_sure a mid runs most first steps (fleet_step_going mid b step))
