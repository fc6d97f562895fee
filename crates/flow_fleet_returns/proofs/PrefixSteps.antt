-- Each journal of a fleet stands for its engine's records, but for one at which the disk failed while a record was appended.
use Rattle.std.proofs.Common.{◌≡◌, ◌≢◌, ◌⊎◌, inl, inr, ℕ, ◌≤◌, Bool, false, List, [], ◌∷◌, ◌++◌, refl, sym, ◌∙◌, subst, ap, IsTrue, arith}
use Rattle.std.specs.Prelude.{Some, slice_get}
use Rattle.cacao_site.specs.Counts.{Rose}
use Rattle.cacao_site.specs.DiskCalls.{GoesOn, IsLeft, KeepsDisk, StaysAt}
use Rattle.cacao_site.specs.RunViews.{file_of}
use Rattle.cacao_site.specs.View.{ClockView, SiteView}
use Rattle.cacao_site.specs.declared.parcel.Parcel.{Parcel}
use Rattle.cacao_site.proofs.Beats.{each-now, goes_on-refl, goes_on-trans, stays-trans}
use Rattle.run_records.specs.Ranges.{InRange}
use Rattle.run_records.specs.declared.record.Record.{Record}
use Rattle.flow_laws.specs.Images.{IsRecords}
use Rattle.flow_laws.proofs.OneList.{records_of_layout}
use Rattle.flow_core_rules.specs.Changes.{moment_of}
use Rattle.flow_engine_history.specs.HistoryView.{HistoryView}
use Rattle.flow_engine.specs.EngineView.{EngineView}
use Rattle.slpf_actuator.specs.ActuatorCalls.{MayHaveDone}
use Rattle.slpf_actuator.specs.ActuatorView.{ActuatorView}
use Rattle.slpf_actuator.specs.declared.error.ActError.{ActError}
use Rattle.slpf_actuator.specs.declared.error.ActError.TheVariants as act_error
use Rattle.flow_world_steps.specs.Appends.{Tries}
use Rattle.flow_world_steps.specs.Appends.Tries.{done, failed as may_be_done, limited}
use Rattle.flow_world_steps.specs.Sides.{IsWhole}
use Rattle.flow_world_steps.specs.Steps.{ActsOn, FailsToAct, PutsCommand, RepeatsReply}
use Rattle.flow_world_steps.specs.Steps.Step.{begins as one_begins, moves as one_moves, expires as one_expires, puts_first as one_puts_first, resends as one_resends, replies as one_replies}
use Rattle.flow_world_steps.specs.Sums.{IsBetween}
use Rattle.flow_world_steps.specs.Worlds.{Cause, IsGoing, Notes, Phase, disk_failed, refused}
use Rattle.flow_world_steps.proofs.Adding.{begins_now, moves_now, replies_now}
use Rattle.flow_world_steps.proofs.Filters.{get_set}
use Rattle.flow_world_steps.proofs.Readiness.{engine_stays, step_ready}
use Rattle.flow_world_steps.proofs.Unbroken.{journal_stands}
use Rattle.flow_fleet_laws.specs.Views.{seen_from}
use Rattle.flow_fleet_laws.proofs.Seen.{file_is, goes_on-seen, no_filter, stays-seen, views_from_the_first}
use Rattle.flow_fleet_sessions.proofs.Records.{all_more}
use Rattle.flow_fleet_steps.specs.Steps.{FleetStep, FleetSteps}
use Rattle.flow_fleet_steps.specs.Steps.FleetStep.{opens_clock, finds_run_used, asks_clock, finds_late, begins, moves, expires, says, fails_to_say, puts_first, resends}
use Rattle.flow_fleet_steps.specs.Steps.FleetStep.{takes, finds_none, fails_to_take, drops, replies, ignores_reply, acts_on, repeats_reply, fails_to_act, wants_memory_now}
use Rattle.flow_fleet_steps.specs.Steps.FleetSteps.{nothing, and_then}
use Rattle.flow_fleet_steps.specs.Turns.{StandsAt}
use Rattle.flow_fleet_steps.specs.Worlds.{EachRun, FleetWorld, Own, part}
use Rattle.flow_fleet_steps.proofs.Back.{only_back, puts_back, same_back}
use Rattle.flow_fleet_steps.proofs.Spending.{fleet_step_going}
use Rattle.flow_fleet.proofs.Places.{set_get}
use Rattle.flow_fleet.proofs.SteadyLemmas.{fleet_steps_steady}
use Rattle.flow_fleet_sums.proofs.Adding.{fleet_steps_add}
use Rattle.flow_fleet_sums.proofs.StepKinds.{OneRun, does}
use Rattle.flow_fleet_sums.proofs.Written.{IsSure, steps_sure}

-- ---- files

-- the journals at two places are two files
pub own_files : (place other : ℕ) → other ≢ place → file_of other ≢ file_of place
own_files place other ne e = elim (file_is place) [
  | inl one ↦ elim (file_is other) [
    | inl two ↦ ne (two.0 ∙ sym one.0)
    | inr two ↦ absurd (let o = one.1 in let t = two.1 in omega (arith, e, o, t))
  ]
  | inr one ↦ elim (file_is other) [
    | inl two ↦ absurd (let o = one.1 in let t = two.1 in omega (arith, e, o, t))
    | inr two ↦ ne (let o = one.1 in let t = two.1 in omega (arith, e, o, t))
  ]
]

pub stays_same : (site : SiteView) (file : ℕ) → StaysAt site.disk site.disk file
stays_same site file = record { reads = refl; images = λ beat image from to. ap (λ (n : ℕ). site.disk.left file n image) (omega (arith, from, to)) }

-- an engine whose journal stays
pub stands_on : (k : ℕ) (v : EngineView) (old new : SiteView) → GoesOn old.disk new.disk → StaysAt old.disk new.disk (file_of k) → StandsAt old k v → StandsAt new k v
stands_on k v old new on stays is = record {
  engine = engine_stays v (seen_from k old) (seen_from k new) (goes_on-seen k on) (stays-seen k 0 stays) is.engine;
  whole = is.whole;
}

-- ---- a fleet

-- each journal holds its engine's records
abbrev pub AllStand : FleetWorld → Type 0
AllStand w = EachRun w.engines (StandsAt w.site)

-- The disk failed, and each image of the journal at this place stands for the records of its engine, or for these and one more. The
-- other journals stand.
pub record OneUnsure (start : SiteView) (w : FleetWorld) : Type 0 where
  pub place : ℕ
  pub v : EngineView
  pub there : slice_get w.engines place ≡ Some v
  pub r : Record
  pub holds : IsTrue w.site.disk.told → (image : List ℕ) → IsLeft w.site.disk (file_of place) w.site.disk.beat image
      → IsRecords image v.history.records ⊎ IsRecords image (v.history.records ++ r ∷ [])
  pub others : (k : ℕ) (v : EngineView) → slice_get w.engines k ≡ Some v → k ≢ place → StandsAt w.site k v
  pub moment : IsBetween start.clock.now w.site.clock.now r
  pub budget : 1 ≤ w.notes.left
  pub rose : Rose start.disk.faults w.site.disk.faults
  pub phase : w.phase ≡ refused disk_failed false

-- one of these
abbrev pub Stand : SiteView → FleetWorld → Type 0
Stand start w = AllStand w ⊎ OneUnsure start w

-- ---- one run went on

module _ (old new : FleetWorld) (place : ℕ) (v w : EngineView) (own : Own) (is : OneRun old new place v w own) (was : IsSure old) (stand : AllStand old) where
  -- what its journal holds, where no record is unsure
  whole_now : w.history.broken ≡ false → StandsAt new.site place w
  whole_now whole = record { engine = (step_ready _ _ (journal_stands (part place v (old.own place) old) (record { whole = stand place v is.there; sure = was.own place })) is.step).engine; whole = whole }

  others_stand : GoesOn old.site.disk new.site.disk → ((file : ℕ) → file ≢ file_of place → StaysAt old.site.disk new.site.disk file) → (k : ℕ) (x : EngineView) → slice_get new.engines k ≡ Some x → k ≢ place → StandsAt new.site k x
  others_stand on files k x at ne = elim (get_set old.engines place k w x (subst (λ (l : List EngineView). slice_get l k ≡ Some x) is.engines at)) [
    | inl here ↦ absurd (ne here.0)
    | inr other ↦ stands_on k x old.site new.site on (files (file_of k) (own_files place k ne)) (stand k x other.1)
  ]

  all_stand : GoesOn old.site.disk new.site.disk → ((file : ℕ) → file ≢ file_of place → StaysAt old.site.disk new.site.disk file) → w.history.broken ≡ false → AllStand new
  all_stand on files whole k x at = elim (get_set old.engines place k w x (subst (λ (l : List EngineView). slice_get l k ≡ Some x) is.engines at)) [
    | inl here ↦ subst (λ (n : ℕ). IsWhole x (seen_from n new.site)) (sym here.0) (subst (λ (y : EngineView). IsWhole y (seen_from place new.site)) here.1 (whole_now whole))
    | inr other ↦ stands_on k x old.site new.site on (files (file_of k) (own_files place k other.0)) (stand k x other.1)
  ]

  pub tried : (IsNext : Record → Type 0) → ((next : Record) → IsNext next → moment_of next ≡ old.site.clock.now) → 1 ≤ old.notes.left → Tries IsNext (part place v (old.own place) old) (part place w own new) → Stand old.site new
  tried IsNext at_now budget (done it) =
      let back = only_back place _ old.site new.site it.appends.adds.offers.file in
      inl (all_stand back.each.goes_on back.others (ap (λ (h : HistoryView). h.broken) it.appends.adds.view))
  tried IsNext at_now budget (may_be_done it) =
      let offers = it.refuses.0.0 in
      let r = offers.comes.next in
      let back = only_back place _ old.site new.site offers.file in
      let ranges = (stand place v is.there).engine.history.ranges in
      let records : w.history.records ≡ v.history.records = ap (λ (h : HistoryView). h.records) it.refuses.0.1 in
      inr (record {
        place = place;
        v = w;
        there = subst (λ (l : List EngineView). slice_get l place ≡ Some w) (sym is.engines) (set_get old.engines place v w is.there);
        r = r;
        holds = λ told image left.
            let same = sym records in
            elim (each-now back.each (subst IsTrue back.each.goes_on.told told) image left) [
              | inl before ↦ inl (subst (λ (l : List Record). IsRecords image l) same (records_of_layout image v.history.records ranges before))
              | inr after ↦ inr (subst (λ (l : List Record). IsRecords image (l ++ r ∷ [])) same (records_of_layout image (v.history.records ++ r ∷ []) (all_more InRange v.history.records r ranges offers.in_range) after))
            ];
        others = others_stand back.each.goes_on back.others;
        moment =
            let here = at_now r offers.comes.is in
            let same = ap (λ (c : ClockView). c.now) back.rest.clock in
            (omega (arith, here), omega (arith, here, same));
        budget = let left = ap (λ (n : Notes). n.left) it.notes in omega (arith, left, budget);
        rose = it.refuses.0.2;
        phase = it.phase;
      })
  tried IsNext at_now budget (limited what it) =
      let same = same_back place old.site new.site it.refuses.0.2 in
      inl (all_stand (subst (λ (s : SiteView). GoesOn old.site.disk s.disk) (sym same) (goes_on-refl old.site.disk))
      (λ file ne. subst (λ (s : SiteView). StaysAt old.site.disk s.disk file) (sym same) (stays_same old.site file))
      (ap (λ (h : HistoryView). h.broken) it.refuses.0.1 ∙ (stand place v is.there).whole))

  pub put : (issue : ℕ) → PutsCommand issue (part place v (old.own place) old) (part place w own new) → Stand old.site new
  put issue it =
      let disk = (puts_back place _ old.site new.site it.sends.put).disk.disk in
      inl (all_stand disk.goes_on (λ file ne. disk.stays file) (ap (λ (x : EngineView). x.history.broken) it.sends.view ∙ it.sends.whole))

-- ---- none did

stay : (old new : FleetWorld) → new.engines ≡ old.engines → GoesOn old.site.disk new.site.disk → ((k : ℕ) → StaysAt old.site.disk new.site.disk (file_of k)) → AllStand old → Stand old.site new
stay old new engines on files stand = inl (λ k v at. stands_on k v old.site new.site on (files k) (stand k v (subst (λ (l : List EngineView). slice_get l k ≡ Some v) engines at)))

keeps : (old new : FleetWorld) → new.engines ≡ old.engines → KeepsDisk old.site.disk new.site.disk → AllStand old → Stand old.site new
keeps old new engines disk = stay old new engines disk.goes_on (λ k. disk.stays (file_of k))

at_site : (old new : FleetWorld) → new.engines ≡ old.engines → new.site ≡ old.site → AllStand old → Stand old.site new
at_site old new engines same = stay old new engines (subst (λ (s : SiteView). GoesOn old.site.disk s.disk) (sym same) (goes_on-refl old.site.disk))
    (λ k. subst (λ (s : SiteView). StaysAt old.site.disk s.disk (file_of k)) (sym same) (stays_same old.site (file_of k)))

-- ---- a filter did

module _ (old new : FleetWorld) (engines : new.engines ≡ old.engines) (stand : AllStand old) where
  -- what the run at place 0 sees is the rack
  from_first : GoesOn (seen_from 0 old.site).disk (seen_from 0 new.site).disk → ((k : ℕ) → StaysAt (seen_from 0 old.site).disk (seen_from 0 new.site).disk (file_of k)) → Stand old.site new
  from_first on files = stay old new engines
      (subst (λ (s : SiteView). GoesOn s.disk new.site.disk) (views_from_the_first old.site) (subst (λ (s : SiteView). GoesOn (seen_from 0 old.site).disk s.disk) (views_from_the_first new.site) on))
      (λ k. subst (λ (s : SiteView). StaysAt s.disk new.site.disk (file_of k)) (views_from_the_first old.site)
      (subst (λ (s : SiteView). StaysAt (seen_from 0 old.site).disk s.disk (file_of k)) (views_from_the_first new.site) (files k))) stand

  same_first : seen_from 0 new.site ≡ seen_from 0 old.site → Stand old.site new
  same_first same = at_site old new engines (same_back 0 old.site new.site same) stand

  acted : (beat : ℕ) (parcel : Parcel) (f g : ActuatorView) (v : EngineView) → ActsOn beat parcel f g (part 0 v (old.own 0) old) (part 0 v (old.own 0) new) → Stand old.site new
  acted beat parcel f g v it =
      let file = it.acts.offers.adds.file in
      let disk = it.acts.puts.disk.disk in
      let ready = it.holds_command.filter.ready in
      from_first (goes_on-trans file.each.goes_on disk.goes_on)
      (λ k. stays-trans file.each.goes_on disk.goes_on (file.others (file_of k) (no_filter k f.agent (ready.low, ready.high))) (disk.stays (file_of k)))

  repeated : (beat : ℕ) (parcel : Parcel) (f g : ActuatorView) (v : EngineView) → RepeatsReply beat parcel f g (part 0 v (old.own 0) old) (part 0 v (old.own 0) new) → Stand old.site new
  repeated beat parcel f g v it = let disk = it.repeats.puts.disk.disk in from_first disk.goes_on (λ k. disk.stays (file_of k))

  failed_act : (beat : ℕ) (parcel : Parcel) (f g : ActuatorView) (error : ActError) (cause : Cause) (v : EngineView) → FailsToAct beat parcel f g error cause (part 0 v (old.own 0) old) (part 0 v (old.own 0) new) → Stand old.site new
  failed_act beat parcel f g error cause v it = by error it.refuses.site
    where
      by : (error : ActError) → MayHaveDone error f parcel old.site.clock.now (seen_from 0 old.site) (seen_from 0 new.site) → Stand old.site new
      by act_error.Disk offers = let ready = it.holds_command.filter.ready in
          from_first offers.adds.file.each.goes_on (λ k. offers.adds.file.others (file_of k) (no_filter k f.agent (ready.low, ready.high)))
      by act_error.Memory may = elim may [
        | inl e ↦ same_first e
        | inr offers ↦ let ready = it.holds_command.filter.ready in
            from_first offers.adds.file.each.goes_on (λ k. offers.adds.file.others (file_of k) (no_filter k f.agent (ready.low, ready.high)))
      ]
      by (act_error.Damaged place) e = same_first e
      by (act_error.Full length) e = same_first e
      by act_error.Broken e = same_first e

-- ---- all

step_stand : (old new : FleetWorld) → FleetStep old new → IsSure old → AllStand old → Stand old.site new
step_stand old new (opens_clock answer is) sure = keeps old new is.goes.sides.engines is.goes.reaches.disk.disk
step_stand old new (finds_run_used place agent is) sure = at_site old new is.only.sides.engines is.only.site
step_stand old new (asks_clock moment answer is) sure = keeps old new is.goes.sides.engines is.goes.reaches.disk.disk
step_stand old new (finds_late moment is) sure = at_site old new is.only.sides.engines is.only.site
step_stand old new (begins place is) sure = λ stand. tried old new place is.does.v is.does.w is.does.own (does _ place old new is.does (one_begins is.does.does)) sure stand _ (begins_now is.does.v.history old.site.clock.now) is.does.does.budget is.does.does.tries
step_stand old new (moves place is) sure = λ stand. tried old new place is.does.v is.does.w is.does.own (does _ place old new is.does (one_moves is.does.does)) sure stand _ (moves_now is.does.v.history old.site.clock.now) is.has_looked.budget is.does.does.tries
step_stand old new (expires place issue is) sure = λ stand. tried old new place is.does.v is.does.w is.does.own (does _ place old new is.does (one_expires issue is.does.does)) sure stand _ (λ next i. ap moment_of i) is.idle.has_looked.budget is.does.does.tries
step_stand old new (says place v bytes is) sure = keeps old new is.speaks.sides.engines is.speaks.only.disk
step_stand old new (fails_to_say place v bytes is) sure = keeps old new is.speaks.sides.engines is.speaks.only.disk
step_stand old new (puts_first place issue is) sure = λ stand. put old new place is.does.v is.does.w is.does.own (does _ place old new is.does (one_puts_first issue is.does.does)) sure stand issue is.does.does.puts
step_stand old new (resends place issue is) sure = λ stand. put old new place is.does.v is.does.w is.does.own (does _ place old new is.does (one_resends issue is.does.does)) sure stand issue is.does.does.puts
step_stand old new (takes parcel is) sure = keeps old new is.sides.engines is.only.disk.disk
step_stand old new (finds_none is) sure = keeps old new is.sides.engines is.only.disk.disk
step_stand old new (fails_to_take is) sure = keeps old new is.sides.engines is.only.disk.disk
step_stand old new (drops beat parcel is) sure = at_site old new is.ignores.sides.engines is.site
step_stand old new (replies beat parcel place is) sure = λ stand. tried old new place is.does.v is.does.w is.does.own (does _ place old new is.does (one_replies beat parcel is.does.does)) sure stand _ (replies_now is.does.v.history parcel old.site.clock.now) is.does.does.budget is.does.does.tries
step_stand old new (ignores_reply beat parcel is) sure = at_site old new is.ignores.sides.engines is.site
step_stand old new (acts_on beat parcel f g is) sure = λ stand. acted old new is.engines stand beat parcel f g is.v is.does
step_stand old new (repeats_reply beat parcel f g is) sure = λ stand. repeated old new is.engines stand beat parcel f g is.v is.does
step_stand old new (fails_to_act beat parcel f g error cause is) sure = λ stand. failed_act old new is.engines stand beat parcel f g error cause is.v is.does
step_stand old new (wants_memory_now is) sure = at_site old new is.only.sides.engines is.only.site

-- what came before the fault
earlier : (start : SiteView) (mid : SiteView) (w : FleetWorld) → mid.disk.faults ≡ start.disk.faults → start.clock.now ≤ mid.clock.now → Stand mid w → Stand start w
earlier start mid w same before (inl all) = inl all
earlier start mid w same before (inr one) = inr (record {
  place = one.place;
  v = one.v;
  there = one.there;
  r = one.r;
  holds = one.holds;
  others = one.others;
  moment = let from = one.moment.0 in (omega (arith, before, from), one.moment.1);
  budget = one.budget;
  rose = subst (λ (n : ℕ). Rose n w.site.disk.faults) same one.rose;
  phase = one.phase;
})

-- what goes on has not refused
going_other : (phase : Phase) → IsGoing phase → (lacks : Bool) → phase ≢ refused disk_failed lacks
going_other phase going lacks e = subst IsGoing e going

pub steps_stand : (a b : FleetWorld) → IsSure a → AllStand a → FleetSteps a b → Stand a.site b
steps_stand a b sure stand nothing = inl stand
steps_stand a b sure stand (and_then {mid} steps step) =
    let going = fleet_step_going mid b step in
    elim (steps_stand a mid sure stand steps) [
      | inl all ↦ earlier a.site mid.site b (fleet_steps_steady a mid steps (going_other mid.phase going)) (fleet_steps_add a mid steps).later (step_stand mid b step (steps_sure a mid steps sure going) all)
      | inr one ↦ absurd (subst IsGoing one.phase going)
    ]
