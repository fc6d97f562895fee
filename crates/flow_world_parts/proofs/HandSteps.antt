-- Whose filter has an act of a run, and where a command that is handed to its filter leads.
use Rattle.std.proofs.Common.{◌≡◌, inl, inr, ℕ, ◌+◌, ◌-◌, ◌<◌, ◌≤◌, Bool, true, false, List, length, get_or, sym, ◌∙◌, subst, ap, arith}
use Rattle.std.specs.Prelude.{◌↔◌, Any, Option, Some, IsTrue, Result, Ok, Err, slice_get}
use Rattle.std.proofs.lemmas.Bool.{cases_lt}
use Rattle.cacao_site.specs.Sound.{IsSound}
use Rattle.cacao_site.specs.View.{SiteView}
use Rattle.cacao_site.specs.declared.parcel.Parcel.{Parcel}
use Rattle.run_records.specs.declared.act.Act.{Act}
use Rattle.flow_world_steps.specs.Images.{HasBegun}
use Rattle.slpf_actuator.specs.ActuatorCalls.{Acts, Refuses}
use Rattle.slpf_actuator.specs.ActuatorView.{ActuatorView}
use Rattle.slpf_actuator.specs.declared.error.ActError.{ActError}
use Rattle.flow_world_steps.specs.Sides.{FiltersReady, IsFilter}
use Rattle.flow_world_steps.specs.Steps.{IsAddressed}
use Rattle.flow_world_parts.specs.Acting.{IsActCause, OneAnswers}
use Rattle.flow_world_parts.specs.Errors.{act_refusal}
use Rattle.flow_world_parts.specs.Leads.{FilterDid}
use Rattle.flow_world_parts.specs.Openings.{HasRunAt}
use Rattle.flow_world_parts.proofs.ActSteps.{filter_of, found}
use Rattle.flow_world_parts.proofs.FilterSteps.{acted_so, refused_so, repeated_so}

-- ---- whose filter has an act of a run

some_is : {T : Type 0} (o : Option T) (x y : T) → o ≡ Some x → o ≡ Some y → x ≡ y
some_is o x y e f = cc

-- this filter has none, nor has one before it
pub none_more : (items fs : List ActuatorView) (run agent : ℕ) (v : ActuatorView) (b : Bool) → items ≡ fs → 1 ≤ agent → agent ≤ length fs → v ≡ get_or items (agent - 1) v
    → b ≡ false → IsTrue b ↔ Any (λ (act : Act). act.run ≡ run) v.acts → ((lower : ℕ) → 1 ≤ lower → lower < agent → HasRunAt fs run lower → ⊥)
    → (lower : ℕ) → 1 ≤ lower → lower < agent + 1 → HasRunAt fs run lower → ⊥
none_more items fs run agent v b is at_least high value not so before lower low less has = elim (cases_lt lower agent) [
  | inl earlier ↦ before lower low earlier has
  | inr late ↦
      let here : lower ≡ agent = omega (arith, late, less) in
      let there : slice_get fs (agent - 1) ≡ Some has.v = subst (λ (n : ℕ). slice_get fs (n - 1) ≡ Some has.v) here has.there in
      let same : has.v ≡ v = some_is (slice_get fs (agent - 1)) has.v v there (found items fs agent v is at_least high value) in
      let held : IsTrue b = so.1 (subst (λ (x : ActuatorView). Any (λ (act : Act). act.run ≡ run) x.acts) same has.has) in
      let e : false ≡ true = sym not ∙ held in
      absurd (cc)
]

-- ---- where its answer leads

module _ (parcel : Parcel) (now : ℕ) (so sn : SiteView) (fs gs : List ActuatorView) (sound : IsSound so) (are : FiltersReady fs so) (at_now : now ≡ so.clock.now) (addressed : IsAddressed parcel)
    (command : parcel.back ≡ false) (begun : IsTrue so.disk.told → HasBegun so so.disk.beat) (sound_after : IsSound sn) (beat : ℕ) where
  filter_is : (r : Result Bool ActError) (one : OneAnswers r parcel now so sn fs gs) → IsFilter one.v parcel.agent so
  filter_is r one = filter_of fs so parcel.agent one.v are addressed.low one.there

  pub did : (acted : Bool) → OneAnswers (Ok acted) parcel now so sn fs gs → FilterDid (Ok acted) beat parcel so fs sn gs
  did true one =
      let is = filter_is (Ok true) one in
      acted_so beat parcel so sn fs gs one.v one.w sound addressed command one.there is begun one.others sound_after (subst (λ (n : ℕ). Acts one.v one.w parcel n so sn) at_now one.answers)
      (record { ready = one.ready; whole = ap (λ (x : ActuatorView). x.broken) one.answers.view ∙ is.whole; of_agent = one.agent ∙ is.of_agent })
  did false one = repeated_so beat parcel so sn fs gs one.v one.w sound addressed command one.there (filter_is (Ok false) one) begun one.others one.answers

  pub did_refuse : (error : ActError) → OneAnswers (Err error) parcel now so sn fs gs → FilterDid (Err (act_refusal error)) beat parcel so fs sn gs
  did_refuse error one =
      refused_so beat parcel so sn fs gs one.v one.w sound addressed command one.there (filter_is (Err error) one) begun one.others error
      (subst (λ (n : ℕ). Refuses one.v one.w parcel n error so sn) at_now one.answers.0) (subst (λ (n : ℕ). IsActCause error one.v parcel n so sn) at_now one.answers.1)
