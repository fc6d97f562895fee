-- What the files of a fleet hold, whatever happened.
use Rattle.std.proofs.Common.{◌≡◌, ◌≢◌, inl, inr, ℕ, suc, ◌≤◌, List, length, refl, sym, ◌∙◌, subst, ap, arith}
use Rattle.std.specs.Prelude.{Option, Some, IfSome, slice_get, slice_set}
use Rattle.cacao_site.specs.DiskCalls.{AllLeft, GoesOn, IsLeft, KeepsDisk, OnlyFile, StaysAt}
use Rattle.cacao_site.specs.RunViews.{file_of}
use Rattle.cacao_site.specs.SiteCalls.{Puts}
use Rattle.cacao_site.specs.View.{SiteView}
use Rattle.cacao_site.specs.declared.parcel.Parcel.{Parcel}
use Rattle.cacao_site.proofs.Beats.{goes_on-refl, goes_on-trans, stays-trans}
use Rattle.run_records.specs.Ranges.{ActInRange, InRange}
use Rattle.run_records.specs.declared.act.Act.{Act}
use Rattle.run_records.specs.declared.record.Record.{Record}
use Rattle.flow_engine.specs.EngineView.{EngineView}
use Rattle.slpf_actuator.specs.ActuatorCalls.{MayHaveDone}
use Rattle.slpf_actuator.specs.ActuatorView.{ActuatorView}
use Rattle.slpf_actuator.specs.declared.error.ActError.{ActError}
use Rattle.slpf_actuator.specs.declared.error.ActError.TheVariants as act_error
use Rattle.flow_laws.specs.Images.{IsAgent}
use Rattle.flow_world_steps.specs.Appends.{Tries}
use Rattle.flow_world_steps.specs.Appends.Tries.{done, failed, limited}
use Rattle.flow_world_steps.specs.Ready.{FilterStands, FiltersStand, HoldsActsWithUnsure, JournalStands}
use Rattle.flow_world_steps.specs.Steps.{ActsOn, DoesNothing, FailsToAct, MayHaveActed, PutsCommand, Step, Unsures}
use Rattle.flow_world_steps.specs.Steps.Step.{begins as one_begins, moves as one_moves, expires as one_expires, puts_first as one_puts_first, resends as one_resends, replies as one_replies}
use Rattle.flow_world_steps.specs.Steps.Step.{acts_on as one_acts_on, repeats_reply as one_repeats, fails_to_act as one_fails_to_act}
use Rattle.flow_world_steps.specs.Worlds.{Cause, IsGoing, Notes, World}
use Rattle.flow_world_steps.proofs.Filters.{filter_stays, get_set, step_filters}
use Rattle.flow_world_steps.proofs.Issues.{below}
use Rattle.flow_world_steps.proofs.Readiness.{step_ready, stays, stays_same}
use Rattle.flow_fleet_laws.specs.Views.{seen_from}
use Rattle.flow_fleet_laws.proofs.Seen.{filter_file, goes_on-seen, journals_differ, no_filter, stays-seen, views_from_the_first}
use Rattle.flow_fleet_steps.specs.Steps.{FiltersDo, FleetStep, FleetSteps, SameSides}
use Rattle.flow_fleet_steps.specs.Steps.FleetStep.{opens_clock, finds_run_used, asks_clock, finds_late, begins, moves, expires, says, fails_to_say, puts_first, resends}
use Rattle.flow_fleet_steps.specs.Steps.FleetStep.{takes, finds_none, fails_to_take, drops, replies, ignores_reply, acts_on, repeats_reply, fails_to_act, wants_memory_now}
use Rattle.flow_fleet_steps.specs.Steps.FleetSteps.{nothing, and_then}
use Rattle.flow_fleet_steps.specs.Worlds.{FleetWorld, Own, Shared, part, set_own}
use Rattle.flow_fleet_steps.proofs.Back.{only_back, puts_back, same_back}
use Rattle.flow_fleet_steps.proofs.Spending.{fleet_step_going}
use Rattle.flow_fleet_sums.proofs.Adding.{length_set}
use Rattle.flow_fleet_sums.proofs.Written.{own_here}
use Rattle.flow_fleet_runs.specs.Standing.{FilesStand}
use Rattle.flow_fleet_runs.proofs.Changing.{own_other}

-- ---- files that stay

-- each file but one stays
record Leaves (file : ℕ) (old new : SiteView) : Type 0 where
  pub on : GoesOn old.disk new.disk
  pub others : (other : ℕ) → other ≢ file → StaysAt old.disk new.disk other

-- each file stays
record AllStay (old new : SiteView) : Type 0 where
  pub on : GoesOn old.disk new.disk
  pub each : (file : ℕ) → StaysAt old.disk new.disk file

kept : (old new : SiteView) → KeepsDisk old.disk new.disk → AllStay old new
kept old new keeps = record { on = keeps.goes_on; each = keeps.stays }

same : (old new : SiteView) → new ≡ old → AllStay old new
same old new e = record { on = subst (λ (s : SiteView). GoesOn old.disk s.disk) (sym e) (goes_on-refl old.disk); each = λ file. stays_same old new file e }

leaves_all : (file : ℕ) (old new : SiteView) → AllStay old new → Leaves file old new
leaves_all file old new all = record { on = all.on; others = λ other ne. all.each other }

-- one run's call leaves all files but its journal
leaves_only : (at : ℕ) (P : List ℕ → Type 0) (old new : SiteView) → OnlyFile 0 (seen_from at old) (seen_from at new) P → Leaves (file_of at) old new
leaves_only at P old new only = let back = only_back at P old new only in record { on = back.each.goes_on; others = back.others }

leaves_put : (at : ℕ) (parcel : Parcel) (old new : SiteView) → Puts parcel (seen_from at old) (seen_from at new) → Leaves (file_of at) old new
leaves_put at parcel old new puts = let back = puts_back at parcel old new puts in leaves_all (file_of at) old new (kept old new back.disk.disk)

module _ (IsNext : Record → Type 0) (old new : FleetWorld) (at : ℕ) (v w : EngineView) (a b : Own) where
  leaves_tried : Tries IsNext (part at v a old) (part at w b new) → Leaves (file_of at) old.site new.site
  leaves_tried (done is) = leaves_only at _ old.site new.site is.appends.adds.offers.file
  leaves_tried (failed is) = leaves_only at _ old.site new.site is.refuses.0.0.file
  leaves_tried (limited what is) = leaves_all (file_of at) old.site new.site (same old.site new.site (same_back at old.site new.site is.refuses.0.2))

-- what the run at place 0 sees is the rack as it is
from_first : (file : ℕ) (old new : SiteView) → Leaves file (seen_from 0 old) (seen_from 0 new) → Leaves file old new
from_first file old new is =
    subst (λ (s : SiteView). Leaves file s new) (views_from_the_first old) (subst (λ (s : SiteView). Leaves file (seen_from 0 old) s) (views_from_the_first new) is)

leaves_acted : (beat : ℕ) (parcel : Parcel) (v w : ActuatorView) (old new : World) → ActsOn beat parcel v w old new → Leaves parcel.agent old.site new.site
leaves_acted beat parcel v w old new is =
    let file = is.acts.offers.adds.file in
    let disk = is.acts.puts.disk.disk in
    let own : v.agent ≡ parcel.agent = is.holds_command.filter.of_agent in
    record {
      on = goes_on-trans file.each.goes_on disk.goes_on;
      others = λ other ne. stays-trans file.each.goes_on disk.goes_on (file.others other (λ e. ne (e ∙ own))) (disk.stays other);
    }

leaves_failed : (beat : ℕ) (parcel : Parcel) (v w : ActuatorView) (error : ActError) (cause : Cause) (old new : World) → FailsToAct beat parcel v w error cause old new → Leaves parcel.agent old.site new.site
leaves_failed beat parcel v w error cause old new is = by error is.refuses.site
  where
    own : v.agent ≡ parcel.agent
    own = is.holds_command.filter.of_agent

    still : new.site ≡ old.site → Leaves parcel.agent old.site new.site
    still e = leaves_all parcel.agent old.site new.site (same old.site new.site e)

    by : (error : ActError) → MayHaveDone error v parcel old.site.clock.now old.site new.site → Leaves parcel.agent old.site new.site
    by act_error.Disk offers = record { on = offers.adds.file.each.goes_on; others = λ other ne. offers.adds.file.others other (λ e. ne (e ∙ own)) }
    by act_error.Memory may = elim may [
      | inl e ↦ still e
      | inr offers ↦ record { on = offers.adds.file.each.goes_on; others = λ other ne. offers.adds.file.others other (λ e. ne (e ∙ own)) }
    ]
    by (act_error.Damaged place) e = still e
    by (act_error.Full length) e = still e
    by act_error.Broken e = still e

-- ---- what may stand is in range

tried_range : (IsNext : Record → Type 0) (old new : World) → Tries IsNext old new → IfSome old.notes.unsure InRange → IfSome new.notes.unsure InRange
tried_range IsNext old new (done is) was = subst (λ (o : Option Record). IfSome o InRange) (sym (ap (λ (n : Notes). n.unsure) is.notes)) was
tried_range IsNext old new (failed is) was = subst (λ (o : Option Record). IfSome o InRange) (sym (ap (λ (n : Notes). n.unsure) is.notes)) is.refuses.0.0.in_range
tried_range IsNext old new (limited what is) was = subst (λ (o : Option Record). IfSome o InRange) (sym (ap (λ (n : Notes). n.unsure) is.notes)) was

abbrev ActsFit : Option (ℕ × Act) → Type 0
ActsFit o = IfSome o (λ (e : ℕ × Act). ActInRange e.1)

failed_range : (error : ActError) (parcel : Parcel) (v : ActuatorView) (old new : World) → Unsures error parcel v old new → ActsFit old.notes.unsure_act → ActsFit new.notes.unsure_act
failed_range error parcel v old new unsures was = by error unsures
  where
    still : DoesNothing old new → ActsFit new.notes.unsure_act
    still is = subst ActsFit (sym (ap (λ (n : Notes). n.unsure_act) is.notes)) was

    may : MayHaveActed parcel v old new → ActsFit new.notes.unsure_act
    may is = subst ActsFit (sym (ap (λ (n : Notes). n.unsure_act) is.notes)) is.offers.in_range

    by : (error : ActError) → Unsures error parcel v old new → ActsFit new.notes.unsure_act
    by act_error.Disk is = may is
    by act_error.Memory is = elim is [ inl none ↦ still none | inr acted ↦ may acted ]
    by (act_error.Damaged place) is = still is
    by (act_error.Full length) is = still is
    by act_error.Broken is = still is

-- ---- filters, as each run sees them

moved : (P : List ℕ → Type 0) (place other agent : ℕ) (site : SiteView) → IsAgent agent → AllLeft agent (seen_from place site).disk P → AllLeft agent (seen_from other site).disk P
moved P place other agent site is all told image left =
    let from = filter_file other agent is.0 is.1 in
    let to = filter_file place agent is.0 is.1 in
    all told image (subst (λ (n : ℕ). IsLeft site.disk n site.disk.beat image) (from ∙ sym to) left)

pub filters_as : (p q : ℕ) (v x : EngineView) (a b : Own) (w : FleetWorld) → FiltersStand (part p v a w) → FiltersStand (part q x b w)
filters_as p q v x a b w is = record {
  each = λ k f there.
      let was : FilterStands (part p v a w) (suc k) f = is.each k f there in
      let own : f.agent ≡ suc k = was.of_agent in
      let agent : IsAgent f.agent = (was.ready.low, was.ready.high) in
      record {
        ready = record {
          low = was.ready.low;
          high = was.ready.high;
          history = was.ready.history;
          images = λ whole. moved _ p q f.agent w.site agent (was.ready.images whole);
        };
        of_agent = own;
        holds = moved (HoldsActsWithUnsure (suc k) f.acts w.notes.unsure_act) p q (suc k) w.site (subst (λ (n : ℕ). IsAgent n) own agent) was.holds;
      };
  sure = is.sure;
}

-- ---- nobody did anything

quiet : (old new : FleetWorld) → IsGoing old.phase → AllStay old.site new.site → SameSides old new → new.notes.unsure_act ≡ old.notes.unsure_act → FilesStand old → FilesStand new
quiet old new going files sides unsure was = record {
  few = subst (λ (l : List EngineView). length l ≤ 16) (sym sides.engines) was.few;
  journals = λ place v there.
      stays (part place v (old.own place) old) (part place v (new.own place) new) (goes_on-seen place files.on) (stays-seen place 0 (files.each (file_of place))) refl
      (ap (λ (o : ℕ → Own). (o place).unsure) sides.own) (was.journals place v (before place v there));
  filters = λ v own. record {
    each = λ k f there.
        filter_stays (part 0 v own old) (part 0 v own new) (suc k) f (goes_on-seen 0 files.on) (stays-seen 0 (suc k) (files.each _)) unsure
        ((was.filters v own).each k f (subst (λ (l : List ActuatorView). slice_get l k ≡ Some f) sides.filters there));
    sure = λ g. unsure ∙ (was.filters v own).sure going;
  };
  record_range = λ place v there. subst (λ (o : Option Record). IfSome o InRange) (sym (ap (λ (o : ℕ → Own). (o place).unsure) sides.own)) (was.record_range place v (before place v there));
  act_range = subst ActsFit (sym unsure) was.act_range;
}
  where
    before : (place : ℕ) (v : EngineView) → slice_get new.engines place ≡ Some v → slice_get old.engines place ≡ Some v
    before place v there = subst (λ (l : List EngineView). slice_get l place ≡ Some v) sides.engines there

-- ---- one run went on

module _ (old new : FleetWorld) (at : ℕ) (v w : EngineView) (own : Own) (there : slice_get old.engines at ≡ Some v) (engines : new.engines ≡ slice_set old.engines at w)
    (owns : new.own ≡ set_own at own old.own) (step : Step (part at v (old.own at) old) (part at w own new)) (leaves : Leaves (file_of at) old.site new.site)
    (unsure : new.notes.unsure_act ≡ old.notes.unsure_act) (range : IfSome (old.own at).unsure InRange → IfSome own.unsure InRange) (was : FilesStand old) where
  low : (place : ℕ) (x : EngineView) → slice_get old.engines place ≡ Some x → place ≤ 15
  low place x has = let lt = below old.engines place x has in let few = was.few in omega (arith, lt, few)

  own_is : new.own at ≡ own
  own_is = ap (λ (o : ℕ → Own). o at) owns ∙ own_here at own old.own

  own_stays : (place : ℕ) → place ≢ at → new.own place ≡ old.own place
  own_stays place ne = ap (λ (o : ℕ → Own). o place) owns ∙ own_other at place own old.own ne

  journal_at : (place : ℕ) (x : EngineView) → slice_get new.engines place ≡ Some x → JournalStands (part place x (new.own place) new)
  journal_at place x has = elim (get_set old.engines at place w x (subst (λ (l : List EngineView). slice_get l place ≡ Some x) engines has)) [
    | inl it ↦
        subst (λ (n : ℕ). JournalStands (part n x (new.own n) new)) (sym it.0)
        (subst (λ (y : EngineView). JournalStands (part at y (new.own at) new)) it.1
        (subst (λ (o : Own). JournalStands (part at w o new)) (sym own_is) (step_ready (part at v (old.own at) old) (part at w own new) (was.journals at v there) step)))
    | inr other ↦
        stays (part place x (old.own place) old) (part place x (new.own place) new) (goes_on-seen place leaves.on)
        (stays-seen place 0 (leaves.others (file_of place) (journals_differ place at (low place x other.1) (low at v there) (λ e. other.0 (sym e))))) refl
        (ap (λ (o : Own). o.unsure) (own_stays place other.0)) (was.journals place x other.1)
  ]

  range_at : (place : ℕ) (x : EngineView) → slice_get new.engines place ≡ Some x → IfSome (new.own place).unsure InRange
  range_at place x has = elim (get_set old.engines at place w x (subst (λ (l : List EngineView). slice_get l place ≡ Some x) engines has)) [
    | inl it ↦
        subst (λ (n : ℕ). IfSome (new.own n).unsure InRange) (sym it.0) (subst (λ (o : Own). IfSome o.unsure InRange) (sym own_is) (range (was.record_range at v there)))
    | inr other ↦ subst (λ (o : Own). IfSome o.unsure InRange) (sym (own_stays place other.0)) (was.record_range place x other.1)
  ]

  one_files : FilesStand new
  one_files = record {
    few = subst (λ (l : List EngineView). length l ≤ 16) (sym engines) (let same = length_set old.engines at w in let few = was.few in omega (arith, same, few));
    journals = journal_at;
    filters = λ x o. filters_as at 0 w x own o new (step_filters (part at v (old.own at) old) (part at w own new) (filters_as 0 at v v (old.own at) (old.own at) old (was.filters v (old.own at))) step);
    record_range = range_at;
    act_range = subst ActsFit (sym unsure) was.act_range;
  }

-- ---- a filter did something

module _ (Did : World → World → Type 0) (old new : FleetWorld) (is : FiltersDo Did old new) (agent : ℕ) (is_agent : IsAgent agent)
    (step : Step (part 0 is.v (old.own 0) old) (part 0 is.v (old.own 0) new)) (leaves : Leaves agent (seen_from 0 old.site) (seen_from 0 new.site))
    (range : ActsFit old.notes.unsure_act → ActsFit new.notes.unsure_act) (was : FilesStand old) where
  before : (place : ℕ) (v : EngineView) → slice_get new.engines place ≡ Some v → slice_get old.engines place ≡ Some v
  before place v there = subst (λ (l : List EngineView). slice_get l place ≡ Some v) is.engines there

  left : Leaves agent old.site new.site
  left = from_first agent old.site new.site leaves

  filter_files : FilesStand new
  filter_files = record {
    few = subst (λ (l : List EngineView). length l ≤ 16) (sym is.engines) was.few;
    journals = λ place v there.
        stays (part place v (old.own place) old) (part place v (new.own place) new) (goes_on-seen place left.on) (stays-seen place 0 (left.others (file_of place) (no_filter place agent is_agent))) refl
        (ap (λ (o : ℕ → Own). (o place).unsure) is.own) (was.journals place v (before place v there));
    filters = λ x o. filters_as 0 0 is.v x (old.own 0) o new (step_filters (part 0 is.v (old.own 0) old) (part 0 is.v (old.own 0) new) (was.filters is.v (old.own 0)) step);
    record_range = λ place v there. subst (λ (o : Option Record). IfSome o InRange) (sym (ap (λ (o : ℕ → Own). (o place).unsure) is.own)) (was.record_range place v (before place v there));
    act_range = range was.act_range;
  }

-- ---- each call

abbrev unsure_of : Shared → Option (ℕ × Act)
unsure_of n = n.unsure_act

module _ (old new : FleetWorld) (at : ℕ) (v w : EngineView) (own : Own) (there : slice_get old.engines at ≡ Some v) (engines : new.engines ≡ slice_set old.engines at w)
    (owns : new.own ≡ set_own at own old.own) (step : Step (part at v (old.own at) old) (part at w own new)) (was : FilesStand old) where
  tried_files : (IsNext : Record → Type 0) → Tries IsNext (part at v (old.own at) old) (part at w own new) → FilesStand new
  tried_files IsNext try =
      one_files old new at v w own there engines owns step (leaves_tried IsNext old new at v w (old.own at) own try) (unsure_act try)
      (tried_range IsNext (part at v (old.own at) old) (part at w own new) try) was
    where
      unsure_act : Tries IsNext (part at v (old.own at) old) (part at w own new) → new.notes.unsure_act ≡ old.notes.unsure_act
      unsure_act (done is) = ap (λ (n : Notes). n.unsure_act) is.notes
      unsure_act (failed is) = ap (λ (n : Notes). n.unsure_act) is.notes
      unsure_act (limited what is) = ap (λ (n : Notes). n.unsure_act) is.notes

  put_files : (issue : ℕ) → PutsCommand issue (part at v (old.own at) old) (part at w own new) → FilesStand new
  put_files issue is =
      one_files old new at v w own there engines owns step (leaves_put at _ old.site new.site is.sends.put) (ap (λ (n : Notes). n.unsure_act) is.notes)
      (λ r. subst (λ (o : Option Record). IfSome o InRange) (sym (ap (λ (n : Notes). n.unsure) is.notes)) r) was

step_files : (old new : FleetWorld) → FilesStand old → FleetStep old new → FilesStand new
step_files old new was (opens_clock answer is) = quiet old new (fleet_step_going old new (opens_clock answer is)) (kept old.site new.site is.goes.reaches.disk.disk) is.goes.sides (ap unsure_of is.goes.notes) was
step_files old new was (finds_run_used place agent is) = quiet old new (fleet_step_going old new (finds_run_used place agent is)) (same old.site new.site is.only.site) is.only.sides (ap unsure_of is.only.notes) was
step_files old new was (asks_clock moment answer is) = quiet old new (fleet_step_going old new (asks_clock moment answer is)) (kept old.site new.site is.goes.reaches.disk.disk) is.goes.sides (ap unsure_of is.goes.notes) was
step_files old new was (finds_late moment is) = quiet old new (fleet_step_going old new (finds_late moment is)) (same old.site new.site is.only.site) is.only.sides (ap unsure_of is.only.notes) was
step_files old new was (begins place is) = let d = is.does in tried_files old new place d.v d.w d.own d.there d.engines d.owns (one_begins d.does) was _ d.does.tries
step_files old new was (moves place is) = let d = is.does in tried_files old new place d.v d.w d.own d.there d.engines d.owns (one_moves d.does) was _ d.does.tries
step_files old new was (expires place issue is) = let d = is.does in tried_files old new place d.v d.w d.own d.there d.engines d.owns (one_expires issue d.does) was _ d.does.tries
step_files old new was (says place v bytes is) = quiet old new (fleet_step_going old new (says place v bytes is)) (kept old.site new.site is.speaks.only.disk) is.speaks.sides (ap unsure_of is.speaks.notes) was
step_files old new was (fails_to_say place v bytes is) = quiet old new (fleet_step_going old new (fails_to_say place v bytes is)) (kept old.site new.site is.speaks.only.disk) is.speaks.sides (ap unsure_of is.speaks.notes) was
step_files old new was (puts_first place issue is) = let d = is.does in put_files old new place d.v d.w d.own d.there d.engines d.owns (one_puts_first issue d.does) was issue d.does.puts
step_files old new was (resends place issue is) = let d = is.does in put_files old new place d.v d.w d.own d.there d.engines d.owns (one_resends issue d.does) was issue d.does.puts
step_files old new was (takes parcel is) = quiet old new (fleet_step_going old new (takes parcel is)) (kept old.site new.site is.only.disk.disk) is.sides (ap unsure_of is.notes) was
step_files old new was (finds_none is) = quiet old new (fleet_step_going old new (finds_none is)) (kept old.site new.site is.only.disk.disk) is.sides (ap unsure_of is.notes) was
step_files old new was (fails_to_take is) = quiet old new (fleet_step_going old new (fails_to_take is)) (kept old.site new.site is.only.disk.disk) is.sides (ap unsure_of is.notes) was
step_files old new was (drops beat parcel is) = quiet old new (fleet_step_going old new (drops beat parcel is)) (same old.site new.site is.site) is.ignores.sides (ap unsure_of is.ignores.notes) was
step_files old new was (replies beat parcel place is) = let d = is.does in tried_files old new place d.v d.w d.own d.there d.engines d.owns (one_replies beat parcel d.does) was _ d.does.tries
step_files old new was (ignores_reply beat parcel is) = quiet old new (fleet_step_going old new (ignores_reply beat parcel is)) (same old.site new.site is.site) is.ignores.sides (ap unsure_of is.ignores.notes) was
step_files old new was (acts_on beat parcel v w is) =
    let to = is.does.holds_command.addressed in
    filter_files _ old new is parcel.agent (to.low, to.high) (one_acts_on beat parcel v w is.does) (leaves_acted beat parcel v w _ _ is.does)
    (λ r. subst ActsFit (sym (ap (λ (n : Notes). n.unsure_act) is.does.notes)) r) was
step_files old new was (repeats_reply beat parcel v w is) =
    let to = is.does.holds_command.addressed in
    filter_files _ old new is parcel.agent (to.low, to.high) (one_repeats beat parcel v w is.does) (leaves_all parcel.agent _ _ (kept _ _ is.does.repeats.puts.disk.disk))
    (λ r. subst ActsFit (sym (ap (λ (n : Notes). n.unsure_act) is.does.ignores.notes)) r) was
step_files old new was (fails_to_act beat parcel v w error cause is) =
    let to = is.does.holds_command.addressed in
    filter_files _ old new is parcel.agent (to.low, to.high) (one_fails_to_act beat parcel v w error cause is.does) (leaves_failed beat parcel v w error cause _ _ is.does)
    (failed_range error parcel v _ _ is.does.notes) was
step_files old new was (wants_memory_now is) = quiet old new is.going (same old.site new.site is.only.site) is.only.sides (ap unsure_of is.only.notes) was

pub steps_files : (a b : FleetWorld) → FilesStand a → FleetSteps a b → FilesStand b
steps_files a b was nothing = was
steps_files a b was (and_then {mid} steps step) = step_files mid b (steps_files a mid was steps) step
