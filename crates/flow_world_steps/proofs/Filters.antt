-- The images of the filters' files, whatever happens.
use Rattle.std.proofs.Common.{◌≡◌, ◌≢◌, ◌⊎◌, inl, inr, ℕ, zero, suc, ◌-◌, ◌≤◌, true, false, List, [], ◌∷◌, refl, sym, ◌∙◌, subst, ap, IsTrue, arith}
use Rattle.std.specs.Prelude.{Option, Some, None, slice_get, slice_set}
use Rattle.cacao_site.specs.DiskCalls.{AllLeft, GoesOn, IsLeft, KeepsDisk, StaysAt}
use Rattle.cacao_site.specs.View.{SiteView}
use Rattle.cacao_site.specs.declared.parcel.Parcel.{Parcel}
use Rattle.cacao_site.proofs.Beats.{each-now, goes_on-refl, goes_on-trans, stays-trans}
use Rattle.run_records.specs.declared.record.Record.{Record}
use Rattle.run_records.specs.declared.act.Act.{Act}
use Rattle.slpf_actuator.specs.ActLists.{IsHistory}
use Rattle.slpf_actuator.specs.ActuatorView.{ActuatorView, HoldsActs, IsReady, act_for}
use Rattle.slpf_actuator.specs.declared.error.ActError.{ActError}
use Rattle.slpf_actuator.specs.declared.error.ActError.TheVariants as act_error
use Rattle.flow_world_steps.specs.Appends.{Tries}
use Rattle.flow_world_steps.specs.Appends.Tries.{done, failed, limited}
use Rattle.flow_world_steps.specs.Ready.{EachFilterReady, FilterStands, FiltersStand, HoldsActsWithUnsure}
use Rattle.flow_world_steps.specs.Steps.{ActsOn, DoesNothing, FailsToAct, MayHaveActed, Step, Unsures}
use Rattle.flow_world_steps.specs.Steps.Step.{opens_clock, finds_run_used, asks_clock, finds_late, begins, moves, upgrades, tells, expires, says, fails_to_say}
use Rattle.flow_world_steps.specs.Steps.Step.{puts_first, resends, takes, finds_none, fails_to_take, drops, replies, ignores_reply, acts_on, repeats_reply, fails_to_act, wants_memory_now}
use Rattle.flow_world_steps.specs.Steps.Steps.{nothing, and_then}
use Rattle.flow_world_steps.specs.Worlds.{Cause, IsGoing, Notes, Phase, World}
use Rattle.flow_world_steps.proofs.Readiness.{all_stays, stays_same}

-- ---- the files of the filters stay

-- time goes on, and each file but the journal stays
record FilesStay (old new : SiteView) : Type 0 where
  pub goes_on : GoesOn old.disk new.disk
  pub each : (file : ℕ) → file ≢ 0 → StaysAt old.disk new.disk file

kept : (old new : SiteView) → KeepsDisk old.disk new.disk → FilesStay old new
kept old new keeps = record { goes_on = keeps.goes_on; each = λ file ne. keeps.stays file }

same : (old new : SiteView) → new ≡ old → FilesStay old new
same old new e = record {
  goes_on = subst (λ (s : SiteView). GoesOn old.disk s.disk) (sym e) (goes_on-refl old.disk);
  each = λ file ne. stays_same old new file e;
}

pub ready_stays : (v : ActuatorView) (old new : SiteView) → GoesOn old.disk new.disk → StaysAt old.disk new.disk v.agent → IsReady v old → IsReady v new
ready_stays v old new on stays is = record {
  low = is.low;
  high = is.high;
  history = is.history;
  images = λ whole. all_stays _ v.agent old new on stays (is.images whole);
}

pub filter_stays : (old new : World) (agent : ℕ) (v : ActuatorView) → GoesOn old.site.disk new.site.disk → StaysAt old.site.disk new.site.disk agent → new.notes.unsure_act ≡ old.notes.unsure_act
    → FilterStands old agent v → FilterStands new agent v
filter_stays old new agent v on stays unsure is = record {
  ready = ready_stays v old.site new.site on (subst (λ (n : ℕ). StaysAt old.site.disk new.site.disk n) (sym is.of_agent) stays) is.ready;
  of_agent = is.of_agent;
  holds = subst (λ (o : Option (ℕ × Act)). AllLeft agent new.site.disk (HoldsActsWithUnsure agent v.acts o)) (sym unsure) (all_stays _ agent old.site new.site on stays is.holds);
}

is_not_zero : (k : ℕ) → suc k ≢ 0
is_not_zero k e = absurd (omega (arith, e))

-- no filter did anything
still : (old new : World) → FilesStay old.site new.site → new.filters ≡ old.filters → new.notes.unsure_act ≡ old.notes.unsure_act → IsGoing old.phase → FiltersStand old → FiltersStand new
still old new files filters unsure going is = record {
  each = λ k v there. filter_stays old new (suc k) v files.goes_on (files.each (suc k) (is_not_zero k)) unsure
      (is.each k v (subst (λ (l : List ActuatorView). slice_get l k ≡ Some v) filters there));
  sure = λ g. unsure ∙ is.sure going;
}

unsure_of : (old new : World) → new.notes ≡ old.notes → new.notes.unsure_act ≡ old.notes.unsure_act
unsure_of old new e = ap (λ (n : Notes). n.unsure_act) e

going_as : (p q : Phase) → p ≡ q → IsGoing q → IsGoing p
going_as p q e g = subst IsGoing (sym e) g

tried : (IsNext : Record → Type 0) (old new : World) → IsGoing old.phase → Tries IsNext old new → FiltersStand old → FiltersStand new
tried IsNext old new going (done is) = still old new (record { goes_on = is.appends.adds.offers.file.each.goes_on; each = is.appends.adds.offers.file.others }) is.filters (ap (λ (n : Notes). n.unsure_act) is.notes) going
tried IsNext old new going (failed is) = still old new (record { goes_on = is.refuses.0.0.file.each.goes_on; each = is.refuses.0.0.file.others }) is.filters (ap (λ (n : Notes). n.unsure_act) is.notes) going
tried IsNext old new going (limited what is) = still old new (same old.site new.site is.refuses.0.2) is.filters (unsure_of old new is.notes) going

-- ---- a filter acted, or may have

pub get_set : {T : Type 0} (xs : List T) (k j : ℕ) (y x : T) → slice_get (slice_set xs k y) j ≡ Some x → ((j ≡ k) × (y ≡ x)) ⊎ ((j ≢ k) × (slice_get xs j ≡ Some x))
get_set [] zero zero y x is = absurd (cc)
get_set [] zero (suc j) y x is = absurd (cc)
get_set [] (suc k) zero y x is = absurd (cc)
get_set [] (suc k) (suc j) y x is = absurd (cc)
get_set (z ∷ xs) zero zero y x is = inl (refl, cc)
get_set (z ∷ xs) zero (suc j) y x is = inr (λ e. absurd (omega (arith, e)), is)
get_set (z ∷ xs) (suc k) zero y x is = inr (λ e. absurd (omega (arith, e)), is)
get_set (z ∷ xs) (suc k) (suc j) y x is = elim (get_set xs k j y x is) [
  | inl new ↦ inl (ap suc new.0, new.1)
  | inr old ↦ inr (λ e. old.0 (omega (arith, e)), old.1)
]

-- one filter is another now, and each other file stays
set_one : (old new : World) (agent : ℕ) (w : ActuatorView) → 1 ≤ agent → new.filters ≡ slice_set old.filters (agent - 1) w → FilterStands new agent w
    → ((k : ℕ) (v : ActuatorView) → suc k ≢ agent → slice_get old.filters k ≡ Some v → FilterStands new (suc k) v) → (k : ℕ) (v : ActuatorView) → slice_get new.filters k ≡ Some v → FilterStands new (suc k) v
set_one old new agent w low filters here others k v there =
    elim (get_set old.filters (agent - 1) k w v (subst (λ (l : List ActuatorView). slice_get l k ≡ Some v) filters there)) [
      | inl is ↦
          let e : agent ≡ suc k = omega (arith, is.0, low) in
          subst (λ (x : ActuatorView). FilterStands new (suc k) x) is.1 (subst (λ (n : ℕ). FilterStands new n w) e here)
      | inr was ↦ others k v (λ e. absurd (was.0 (omega (arith, e)))) was.1
    ]

acted : (old new : World) (beat : ℕ) (parcel : Parcel) (v w : ActuatorView) → ActsOn beat parcel v w old new → FiltersStand old → FiltersStand new
acted old new beat parcel v w is was =
    let file = is.acts.offers.adds.file in
    let disk = is.acts.puts.disk.disk in
    let unsure : new.notes.unsure_act ≡ old.notes.unsure_act = ap (λ (n : Notes). n.unsure_act) is.notes in
    let none : new.notes.unsure_act ≡ None = unsure ∙ was.sure (going_as old.phase _ is.holds_command.phase tt) in
    let own : v.agent ≡ parcel.agent = is.holds_command.filter.of_agent in
    record {
      each = set_one old new parcel.agent w is.holds_command.addressed.low is.filters
          (record {
            ready = is.filter.ready;
            of_agent = is.filter.of_agent;
            holds = subst (λ (o : Option (ℕ × Act)). AllLeft parcel.agent new.site.disk (HoldsActsWithUnsure parcel.agent w.acts o)) (sym none)
                (λ told image left. (is.filter.ready.images is.filter.whole told image (subst (λ (n : ℕ). IsLeft new.site.disk n new.site.disk.beat image) (sym is.filter.of_agent) left)).0);
          })
          (λ k x ne there. filter_stays old new (suc k) x (goes_on-trans file.each.goes_on disk.goes_on)
          (stays-trans file.each.goes_on disk.goes_on (file.others (suc k) (λ e. absurd (ne (e ∙ own)))) (disk.stays (suc k))) unsure (was.each k x there));
      sure = λ g. none;
    }

-- what holds of acts alone holds also where one of another agent is unsure
with_unsure : (agent : ℕ) (acts : List Act) (site : SiteView) (o : Option (ℕ × Act)) → AllLeft agent site.disk (HoldsActs acts) → AllLeft agent site.disk (HoldsActsWithUnsure agent acts o)
with_unsure agent acts site None all = all
with_unsure agent acts site (Some e) all = λ told image left. inl (all told image left)

module _ (old new : World) (beat : ℕ) (parcel : Parcel) (v w : ActuatorView) (error : ActError) (cause : Cause) (is : FailsToAct beat parcel v w error cause old new) (was : FiltersStand old) where
  none_before : old.notes.unsure_act ≡ None
  none_before = was.sure (going_as old.phase _ is.holds_command.phase tt)

  before : (agent : ℕ) (x : ActuatorView) → FilterStands old agent x → AllLeft agent old.site.disk (HoldsActs x.acts)
  before agent x stands = subst (λ (o : Option (ℕ × Act)). AllLeft agent old.site.disk (HoldsActsWithUnsure agent x.acts o)) none_before stands.holds

  -- a filter whose file stays
  other : (agent : ℕ) (x : ActuatorView) → GoesOn old.site.disk new.site.disk → StaysAt old.site.disk new.site.disk agent → FilterStands old agent x → FilterStands new agent x
  other agent x on stays stands = record {
    ready = ready_stays x old.site new.site on (subst (λ (n : ℕ). StaysAt old.site.disk new.site.disk n) (sym stands.of_agent) stays) stands.ready;
    of_agent = stands.of_agent;
    holds = with_unsure agent x.acts new.site new.notes.unsure_act (all_stays _ agent old.site new.site on stays (before agent x stands));
  }

  -- the filter itself, whatever its file holds
  broken_now : w.broken ≡ true
  broken_now = ap (λ (x : ActuatorView). x.broken) is.refuses.view

  itself : AllLeft parcel.agent new.site.disk (HoldsActsWithUnsure parcel.agent w.acts new.notes.unsure_act) → FilterStands new parcel.agent w
  itself holds_ = record {
    ready = record {
      low = subst (λ (x : ActuatorView). 1 ≤ x.agent) (sym is.refuses.view) is.holds_command.filter.ready.low;
      high = subst (λ (x : ActuatorView). x.agent ≤ 16) (sym is.refuses.view) is.holds_command.filter.ready.high;
      history = subst (λ (x : ActuatorView). IsHistory x.acts) (sym is.refuses.view) is.holds_command.filter.ready.history;
      images = λ whole. absurd (not_both broken_now whole);
    };
    of_agent = ap (λ (x : ActuatorView). x.agent) is.refuses.view ∙ is.holds_command.filter.of_agent;
    holds = holds_;
  }
    where
      not_both : w.broken ≡ true → w.broken ≡ false → ⊥
      not_both e f = let g : true ≡ false = sym e ∙ f in cc

  acts_are : w.acts ≡ v.acts
  acts_are = ap (λ (x : ActuatorView). x.acts) is.refuses.view

  own_before : AllLeft parcel.agent old.site.disk (HoldsActs v.acts)
  own_before told image left = (is.holds_command.filter.ready.images is.holds_command.filter.whole told image
      (subst (λ (n : ℕ). IsLeft old.site.disk n old.site.disk.beat image) (sym is.holds_command.filter.of_agent) left)).0

  all_same : DoesNothing old new → (k : ℕ) (x : ActuatorView) → slice_get new.filters k ≡ Some x → FilterStands new (suc k) x
  all_same nothing_done =
      let e : new.site ≡ old.site = nothing_done.site in
      let files = same old.site new.site e in
      set_one old new parcel.agent w is.holds_command.addressed.low is.filters
      (itself (subst (λ (l : List Act). AllLeft parcel.agent new.site.disk (HoldsActsWithUnsure parcel.agent l new.notes.unsure_act)) (sym acts_are)
      (with_unsure parcel.agent v.acts new.site new.notes.unsure_act (subst (λ (s : SiteView). AllLeft parcel.agent s.disk (HoldsActs v.acts)) (sym e) own_before))))
      (λ k x ne there. other (suc k) x files.goes_on (files.each (suc k) (is_not_zero k)) (was.each k x there))

  all_offered : MayHaveActed parcel v old new → (k : ℕ) (x : ActuatorView) → slice_get new.filters k ≡ Some x → FilterStands new (suc k) x
  all_offered may =
      let file = may.offers.adds.file in
      let unsure_now : new.notes.unsure_act ≡ Some (parcel.agent, act_for v.acts parcel old.site.clock.now) = ap (λ (n : Notes). n.unsure_act) may.notes in
      let own : v.agent ≡ parcel.agent = is.holds_command.filter.of_agent in
      set_one old new parcel.agent w is.holds_command.addressed.low is.filters
      (itself (subst (λ (l : List Act). AllLeft parcel.agent new.site.disk (HoldsActsWithUnsure parcel.agent l new.notes.unsure_act)) (sym acts_are)
      (subst (λ (o : Option (ℕ × Act)). AllLeft parcel.agent new.site.disk (HoldsActsWithUnsure parcel.agent v.acts o)) (sym unsure_now)
      (λ told image left. elim (each-now file.each (subst IsTrue file.each.goes_on.told told) image (subst (λ (n : ℕ). IsLeft new.site.disk n new.site.disk.beat image) (sym own) left)) [
        | inl acts ↦ inl acts
        | inr more ↦ inr (refl, more)
      ]))))
      (λ k x ne there. other (suc k) x file.each.goes_on (file.others (suc k) (λ e. absurd (ne (e ∙ own)))) (was.each k x there))

  all_by : (e : ActError) → Unsures e parcel v old new → (k : ℕ) (x : ActuatorView) → slice_get new.filters k ≡ Some x → FilterStands new (suc k) x
  all_by act_error.Disk offers = all_offered offers
  all_by act_error.Memory may = elim may [ inl e ↦ all_same e | inr offers ↦ all_offered offers ]
  all_by (act_error.Damaged place) e = all_same e
  all_by (act_error.Full length) e = all_same e
  all_by act_error.Broken e = all_same e

  failed_act : FiltersStand new
  failed_act = record { each = all_by error is.notes; sure = λ g. absurd (subst IsGoing is.phase g) }

pub step_filters : (old new : World) → FiltersStand old → Step old new → FiltersStand new
step_filters old new was (opens_clock answer is) = still old new (kept old.site new.site is.goes.reaches.disk.disk) is.goes.sides.filters (ap (λ (n : Notes). n.unsure_act) is.goes.notes) (going_as old.phase _ is.phase tt) was
step_filters old new was (finds_run_used agent is) = still old new (same old.site new.site is.only.site) is.only.sides.filters (ap (λ (n : Notes). n.unsure_act) is.only.notes) (going_as old.phase _ is.phase tt) was
step_filters old new was (asks_clock moment answer is) = still old new (kept old.site new.site is.goes.reaches.disk.disk) is.goes.sides.filters (ap (λ (n : Notes). n.unsure_act) is.goes.notes) (going_as old.phase _ is.next.up_to_date.on_time.untold.idle.has_looked.phase tt) was
step_filters old new was (finds_late moment is) = still old new (same old.site new.site is.only.site) is.only.sides.filters (ap (λ (n : Notes). n.unsure_act) is.only.notes) (going_as old.phase _ is.next.up_to_date.on_time.untold.idle.has_looked.phase tt) was
step_filters old new was (begins is) = tried _ old new (going_as old.phase _ is.phase tt) is.tries was
step_filters old new was (moves is) = tried _ old new (going_as old.phase _ is.has_looked.phase tt) is.tries was
step_filters old new was (upgrades issue told is) = tried _ old new (going_as old.phase _ is.to_be_told.idle.has_looked.phase tt) is.tries was
step_filters old new was (tells issue told is) = tried _ old new (going_as old.phase _ is.to_be_told.idle.has_looked.phase tt) is.tries was
step_filters old new was (expires issue is) = tried _ old new (going_as old.phase _ is.overdue.untold.idle.has_looked.phase tt) is.tries was
step_filters old new was (says bytes is) = still old new (kept old.site new.site is.speaks.only.disk) is.speaks.sides.filters (ap (λ (n : Notes). n.unsure_act) is.speaks.notes) (going_as old.phase _ is.speaks.phase tt) was
step_filters old new was (fails_to_say bytes is) = still old new (kept old.site new.site is.speaks.only.disk) is.speaks.sides.filters (ap (λ (n : Notes). n.unsure_act) is.speaks.notes) (going_as old.phase _ is.speaks.phase tt) was
step_filters old new was (puts_first issue is) = still old new (kept old.site new.site is.puts.sends.put.disk.disk) is.puts.filters (ap (λ (n : Notes). n.unsure_act) is.puts.notes) (going_as old.phase _ is.phase tt) was
step_filters old new was (resends issue is) = still old new (kept old.site new.site is.puts.sends.put.disk.disk) is.puts.filters (ap (λ (n : Notes). n.unsure_act) is.puts.notes) (going_as old.phase _ is.due.on_time.untold.idle.has_looked.phase tt) was
step_filters old new was (takes parcel is) = still old new (kept old.site new.site is.only.disk.disk) is.sides.filters (ap (λ (n : Notes). n.unsure_act) is.notes) (going_as old.phase _ is.turn.phase tt) was
step_filters old new was (finds_none is) = still old new (kept old.site new.site is.only.disk.disk) is.sides.filters (ap (λ (n : Notes). n.unsure_act) is.notes) (going_as old.phase _ is.turn.phase tt) was
step_filters old new was (fails_to_take is) = still old new (kept old.site new.site is.only.disk.disk) is.sides.filters (ap (λ (n : Notes). n.unsure_act) is.notes) (going_as old.phase _ is.turn.phase tt) was
step_filters old new was (drops beat parcel is) = still old new (same old.site new.site is.site) is.ignores.filters (ap (λ (n : Notes). n.unsure_act) is.ignores.notes) (going_as old.phase _ is.phase tt) was
step_filters old new was (replies beat parcel is) = tried _ old new (going_as old.phase _ is.holds_reply.phase tt) is.tries was
step_filters old new was (ignores_reply beat parcel is) = still old new (same old.site new.site is.site) is.ignores.filters (ap (λ (n : Notes). n.unsure_act) is.ignores.notes) (going_as old.phase _ is.holds_reply.phase tt) was
step_filters old new was (acts_on beat parcel v w is) = acted old new beat parcel v w is was
step_filters old new was (repeats_reply beat parcel v w is) = still old new (kept old.site new.site is.repeats.puts.disk.disk) is.ignores.filters (ap (λ (n : Notes). n.unsure_act) is.ignores.notes) (going_as old.phase _ is.holds_command.phase tt) was
step_filters old new was (fails_to_act beat parcel v w error cause is) = failed_act old new beat parcel v w error cause is was
step_filters old new was (wants_memory_now is) = still old new (same old.site new.site is.only.site) is.only.sides.filters (ap (λ (n : Notes). n.unsure_act) is.only.notes) is.going was

pub steps_ready_filters : EachFilterReady
steps_ready_filters a b is nothing = is
steps_ready_filters a b is (and_then {mid} steps step) = step_filters mid b (steps_ready_filters a mid is steps) step
