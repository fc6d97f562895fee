-- A command that is handed to its filter, whatever has begun.
use Rattle.std.proofs.Common.{◌≡◌, ◌≢◌, inl, inr, ℕ, zero, suc, ◌-◌, ◌≤◌, Bool, true, false, List, [], ◌∷◌, length, get_or, refl, sym, ◌∙◌, subst, ap, arith}
use Rattle.std.specs.Prelude.{◌↔◌, Some, IfErr, IsErrOf, OnOk, Result, Ok, Err, slice_get, slice_set}
use Rattle.std.proofs.lemmas.Option.{slice_get_read}
use Rattle.cacao_site.specs.Counts.{Rose}
use Rattle.cacao_site.specs.DiskCalls.{GoesOn, StaysAt}
use Rattle.cacao_site.specs.View.{SiteView}
use Rattle.cacao_site.specs.declared.parcel.Parcel.{Parcel}
use Rattle.cacao_site.proofs.Beats.{goes_on-trans, stays-trans}
use Rattle.slpf_actuator.specs.ActuatorCalls.{Acts, Overflows, Refuses, Repeats}
use Rattle.slpf_actuator.specs.ActuatorView.{ActuatorView}
use Rattle.slpf_actuator.specs.declared.error.ActError.{ActError}
use Rattle.slpf_actuator.specs.declared.error.ActError.TheVariants as act_error
use Rattle.flow_world_steps.specs.Sides.{FiltersReady, IsFilter}
use Rattle.flow_world_steps.proofs.Filters.{get_set, ready_stays}
use Rattle.flow_world_parts.specs.Acting.{FilterAnswers, IsActCause, OneAnswers}
use Rattle.flow_world_parts.specs.Errors.{MayRefuseAct}

-- ---- the filter of an agent

pub found : (items fs : List ActuatorView) (agent : ℕ) (v : ActuatorView) → items ≡ fs → 1 ≤ agent → agent ≤ length fs → v ≡ get_or items (agent - 1) v → slice_get fs (agent - 1) ≡ Some v
found items fs agent v is low high value =
    subst (λ (l : List ActuatorView). slice_get l (agent - 1) ≡ Some v) is (slice_get_read items (length fs) (agent - 1) v (sym (ap length is)) (omega (arith, low, high)) value)

pub filter_of : (fs : List ActuatorView) (so : SiteView) (agent : ℕ) (v : ActuatorView) → FiltersReady fs so → 1 ≤ agent → slice_get fs (agent - 1) ≡ Some v → IsFilter v agent so
filter_of fs so agent v are low there =
    let here : suc (agent - 1) ≡ agent = omega (arith, low) in subst (λ (a : ℕ). IsFilter v a so) here (are.each (agent - 1) v there)

-- ---- the other filters

length_set : {T : Type 0} (xs : List T) (k : ℕ) (y : T) → length (slice_set xs k y) ≡ length xs
length_set [] zero y = refl
length_set [] (suc k) y = refl
length_set (x ∷ xs) zero y = refl
length_set (x ∷ xs) (suc k) y = ap suc (length_set xs k y)

module _ (fs : List ActuatorView) (so sn : SiteView) (agent : ℕ) (w : ActuatorView) (are : FiltersReady fs so) (low : 1 ≤ agent) (on : GoesOn so.disk sn.disk)
    (others : (file : ℕ) → file ≢ agent → StaysAt so.disk sn.disk file) (is : IsFilter w agent sn) where
  pub one_changed : FiltersReady (slice_set fs (agent - 1) w) sn
  one_changed = record {
    few = let same = length_set fs (agent - 1) w in let few = are.few in omega (arith, same, few);
    each = λ k x there. elim (get_set fs (agent - 1) k w x there) [
      | inl here ↦
          let e : agent ≡ suc k = omega (arith, here.0, low) in
          subst (λ (y : ActuatorView). IsFilter y (suc k) sn) here.1 (subst (λ (n : ℕ). IsFilter w n sn) e is)
      | inr other ↦
          let was = are.each k x other.1 in
          record {
            ready = ready_stays x so sn on (others x.agent (λ e. absurd (other.0 (omega (arith, e, was.of_agent))))) was.ready;
            whole = was.whole;
            of_agent = was.of_agent;
          }
    ];
  }

-- ---- its answer

pub may_refuse_act : {T : Type 0} (r : Result T ActError) (error : ActError) (broken : Bool) → r ≡ Err error → broken ≡ false → (IsErrOf r act_error.Broken ↔ (broken ≡ true))
    → ((place : ℕ) → r ≢ Err (act_error.Damaged place)) → MayRefuseAct error
may_refuse_act r act_error.Disk broken is whole broke no_other = tt
may_refuse_act r (act_error.Full needed) broken is whole broke no_other = tt
may_refuse_act r act_error.Memory broken is whole broke no_other = tt
may_refuse_act r (act_error.Damaged place) broken is whole broke no_other = absurd (no_other place is)
may_refuse_act r act_error.Broken broken is whole broke no_other = let e : broken ≡ true = broke.0 is in absurd (cc)

pub may_refuse_all : (r : Result Bool ActError) (broken : Bool) → broken ≡ false → (IsErrOf r act_error.Broken ↔ (broken ≡ true)) → ((place : ℕ) → r ≢ Err (act_error.Damaged place)) → IfErr r MayRefuseAct
may_refuse_all (Ok acted) broken whole broke no_other = tt
may_refuse_all (Err error) broken whole broke no_other = may_refuse_act (Err error) error broken refl whole broke no_other

module _ (parcel : Parcel) (moment : ℕ) (so sn : SiteView) (v w : ActuatorView) (filter_is : IsFilter v parcel.agent so) where
  cause : {T : Type 0} (r : Result T ActError) (error : ActError) → r ≡ Err error → (IsErrOf r act_error.Broken ↔ (v.broken ≡ true)) → (IsErrOf r act_error.Disk → Rose so.disk.faults sn.disk.faults)
      → ((needed : ℕ) → IsErrOf r (act_error.Full needed) → Overflows v parcel moment needed) → ((place : ℕ) → r ≢ Err (act_error.Damaged place)) → IsActCause error v parcel moment so sn
  cause r act_error.Disk is broke rose full no_other = rose is
  cause r (act_error.Full needed) is broke rose full no_other = full needed is
  cause r act_error.Memory is broke rose full no_other = tt
  cause r (act_error.Damaged place) is broke rose full no_other = absurd (no_other place is)
  cause r act_error.Broken is broke rose full no_other = let e : v.broken ≡ true = broke.0 is in let f = filter_is.whole in absurd (cc)

  pub filter_answers : (r : Result Bool ActError) → (r ≡ Ok true → Acts v w parcel moment so sn) → (r ≡ Ok false → Repeats v w parcel so sn)
      → (v.broken ≡ false → IfErr r (λ error. Refuses v w parcel moment error so sn)) → (IsErrOf r act_error.Broken ↔ (v.broken ≡ true))
      → (IsErrOf r act_error.Disk → Rose so.disk.faults sn.disk.faults) → ((needed : ℕ) → IsErrOf r (act_error.Full needed) → Overflows v parcel moment needed)
      → ((place : ℕ) → r ≢ Err (act_error.Damaged place)) → FilterAnswers r v w parcel moment so sn
  filter_answers (Ok true) acted repeated refused broke rose full no_other = acted refl
  filter_answers (Ok false) acted repeated refused broke rose full no_other = repeated refl
  filter_answers (Err error) acted repeated refused broke rose full no_other = (refused filter_is.whole, cause (Err error) error refl broke rose full no_other)

module _ (parcel : Parcel) (moment : ℕ) (so sn : SiteView) (fs gs : List ActuatorView) (are : FiltersReady fs so) (low : 1 ≤ parcel.agent) where
  pub ready_after : (r : Result Bool ActError) → OneAnswers r parcel moment so sn fs gs → OnOk r (FiltersReady gs sn)
  ready_after (Ok true) one =
      let acts = one.answers in
      let was = filter_of fs so parcel.agent one.v are low one.there in
      let file = acts.offers.adds.file in
      let disk = acts.puts.disk.disk in
      subst (λ (l : List ActuatorView). FiltersReady l sn) (sym one.others)
      (one_changed fs so sn parcel.agent one.w are low (goes_on-trans file.each.goes_on disk.goes_on)
      (λ other ne. stays-trans file.each.goes_on disk.goes_on (file.others other (λ e. ne (e ∙ was.of_agent))) (disk.stays other))
      (record { ready = one.ready; whole = ap (λ (x : ActuatorView). x.broken) acts.view ∙ was.whole; of_agent = one.agent ∙ was.of_agent }))
  ready_after (Ok false) one =
      let repeats = one.answers in
      let was = filter_of fs so parcel.agent one.v are low one.there in
      let disk = repeats.puts.disk.disk in
      subst (λ (l : List ActuatorView). FiltersReady l sn) (sym one.others)
      (one_changed fs so sn parcel.agent one.w are low disk.goes_on (λ other ne. disk.stays other)
      (record { ready = one.ready; whole = ap (λ (x : ActuatorView). x.broken) repeats.view ∙ was.whole; of_agent = one.agent ∙ was.of_agent }))
  ready_after (Err error) one = tt
