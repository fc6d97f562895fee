-- What a fleet knows of a parcel in hand, and where it leads.
use Rattle.std.proofs.Common.{◌≡◌, ◌≢◌, inl, inr, ℕ, ◌+◌, ◌-◌, ◌<◌, ◌≤◌, Bool, true, false, List, length, refl, sym, ◌∙◌, subst, ap, arith}
use Rattle.std.specs.Prelude.{OnOk, Option, Some, None, Result, Ok, Err, slice_get, slice_set}
use Rattle.std.proofs.lemmas.Bool.{cases_lt}
use Rattle.cacao_site.specs.DiskCalls.{GoesOn, StaysAt}
use Rattle.cacao_site.specs.RunViews.{file_of}
use Rattle.cacao_site.specs.Sound.{IsSound}
use Rattle.cacao_site.specs.View.{ClockView, SiteView}
use Rattle.cacao_site.specs.declared.parcel.Parcel.{Parcel}
use Rattle.cacao_site.proofs.Beats.{goes_on-trans, stays-trans}
use Rattle.oc2_msg.specs.declared.answers.Answer.{Answer}
use Rattle.run_records.specs.Ranges.{last_moment}
use Rattle.slpf_actuator.specs.ActuatorCalls.{Acts, Refuses}
use Rattle.slpf_actuator.specs.ActuatorView.{ActuatorView}
use Rattle.slpf_actuator.specs.declared.error.ActError.{ActError}
use Rattle.flow_core_rules.specs.Changes.{is_in_time}
use Rattle.flow_engine.specs.EngineCalls.{IsReplyTo}
use Rattle.flow_engine.specs.EngineView.{EngineView}
use Rattle.flow_world_steps.specs.Sides.{AreFilters, FiltersReady, IsFilter}
use Rattle.flow_world_steps.specs.Steps.{IsAddressed}
use Rattle.flow_world_steps.specs.Turns.{most_ignored}
use Rattle.flow_world_steps.specs.Worlds.{Phase, holds, rests}
use Rattle.flow_world_steps.proofs.Issues.{below}
use Rattle.flow_world_steps.proofs.Timely.{in_time_bounds}
use Rattle.flow_world_parts.specs.Acting.{IsActCause, OneAnswers}
use Rattle.flow_world_parts.specs.Errors.{act_refusal}
use Rattle.flow_world_parts.proofs.ActSteps.{filter_of}
use Rattle.flow_fleet_laws.proofs.Seen.{no_filter}
use Rattle.flow_fleet_steps.specs.Errors.{fleet_refusal}
use Rattle.flow_fleet_steps.specs.Worlds.{FleetWorld, Own, Shared}
use Rattle.flow_fleet_steps.specs.declared.error.FleetError.{FleetError}
use Rattle.flow_fleet.specs.Leads.{Counts, Goes, IsBetweenTurns, IsSameFleet, IsWorking, Leads, Refuses as FleetRefuses, RefusesAt, at, world_of}
use Rattle.flow_fleet.specs.declared.fleet_state.Fleet.{Fleet}
use Rattle.flow_fleet.proofs.Places.{length_set, settled_stays, whole_stays}
use Rattle.flow_fleet.proofs.TurnLemmas.{acted_so, first_of, refused_so, repeated_so}

-- ---- the filters of all agents

pub filters_ready : (fs : List ActuatorView) (site : SiteView) → AreFilters fs site → FiltersReady fs site
filters_ready fs site are = let all = are.all in record { few = omega (arith, all); each = are.each }

pub within_time : (so : SiteView) (s : Fleet) → IsWorking s so → s.now ≤ last_moment
within_time so s works =
    let first = first_of s.engines.items works.turn in
    let bounds = (in_time_bounds first.0.history.seen so.clock.now (works.in_time 0 first.0 first.1)).1 in
    let now = works.now in
    omega (arith, bounds, now)

-- ---- a turn may begin behind a parcel, if it was not one too many

pub still_between : (so : SiteView) (s : Fleet) → IsBetweenTurns s so → IsBetweenTurns (record s { ignored = 0 }) so
still_between so s between = record {
  works = record {
    few = between.works.few;
    stands = between.works.stands;
    in_time = between.works.in_time;
    filters = between.works.filters;
    now = between.works.now;
    turn = between.works.turn;
  };
  settled = between.settled;
  calm = omega arith;
}

-- ---- a command

module _ (so sn : SiteView) (s : Fleet) (gs : List ActuatorView) (agent : ℕ) (low : 1 ≤ agent) (high : agent ≤ 16) (on : GoesOn so.disk sn.disk) (others : (file : ℕ) → file ≢ agent → StaysAt so.disk sn.disk file)
    (now : sn.clock.now ≡ so.clock.now) (filters : AreFilters gs sn) (between : IsBetweenTurns s so) where
  journal_stays : (k : ℕ) → StaysAt so.disk sn.disk (file_of k)
  journal_stays k = others (file_of k) (no_filter k agent (low, high))

  pub between_acted : IsBetweenTurns (record s { filters = gs; ignored = 0 }) sn
  between_acted = record {
    works = record {
      few = between.works.few;
      stands = λ k v there. whole_stays k v so sn on (journal_stays k) (between.works.stands k v there);
      in_time = λ k v there. subst (λ (n : ℕ). is_in_time v.history.seen n ≡ true) (sym now) (between.works.in_time k v there);
      filters = filters;
      now = between.works.now ∙ sym now;
      turn = between.works.turn;
    };
    settled = λ k v there. settled_stays k v so sn on (journal_stays k) (between.settled k v there);
    calm = omega arith;
  }

module _ (so sn : SiteView) (s : Fleet) (gs : List ActuatorView) (parcel : Parcel) (sound : IsSound so) (sound_after : IsSound sn) (between : IsBetweenTurns s so) (addressed : IsAddressed parcel)
    (command : parcel.back ≡ false) where
  are_after : (r : Result Bool ActError) → OneAnswers r parcel s.now so sn s.filters gs → FiltersReady gs sn → AreFilters gs sn
  are_after r one ready = record {
    all = ap (λ (l : List ActuatorView). length l) one.others ∙ length_set s.filters (parcel.agent - 1) one.w ∙ between.works.filters.all;
    each = ready.each;
  }

  its_filter : (r : Result Bool ActError) (one : OneAnswers r parcel s.now so sn s.filters gs) → IsFilter one.v parcel.agent so
  its_filter r one = filter_of s.filters so parcel.agent one.v (filters_ready s.filters so between.works.filters) addressed.low one.there

  pub command_acted : (beat : ℕ) → OneAnswers (Ok true) parcel s.now so sn s.filters gs → Goes so s (holds beat parcel) sn (record s { filters = gs }) rests
  command_acted beat one =
      let is = its_filter (Ok true) one in
      acted_so beat parcel so sn s gs one.v one.w sound between addressed command one.there is one.others sound_after
      (subst (λ (n : ℕ). Acts one.v one.w parcel n so sn) between.works.now one.answers)
      (record { ready = one.ready; whole = ap (λ (x : ActuatorView). x.broken) one.answers.view ∙ is.whole; of_agent = one.agent ∙ is.of_agent })

  pub command_repeated : (beat : ℕ) → OneAnswers (Ok false) parcel s.now so sn s.filters gs → Goes so s (holds beat parcel) sn (record s { filters = gs; ignored = s.ignored + 1 }) rests
  command_repeated beat one =
      repeated_so beat parcel so sn s gs one.v one.w sound between addressed command one.there (its_filter (Ok false) one) one.others one.answers between.calm

  pub command_refused : (beat : ℕ) (why : ActError) (said : FleetError) → said ≡ fleet_refusal 0 0 (act_refusal why) → OneAnswers (Err why) parcel s.now so sn s.filters gs → FleetRefuses said so s (holds beat parcel) sn
  command_refused beat why said is one own notes k counts =
      subst (λ (e : FleetError). RefusesAt e sn (world_of so s own notes (holds beat parcel) k)) (sym is)
      (refused_so beat parcel so sn s gs one.v one.w sound between addressed command one.there (its_filter (Err why) one) one.others why
      (subst (λ (n : ℕ). Refuses one.v one.w parcel n why so sn) between.works.now one.answers.0) (subst (λ (n : ℕ). IsActCause why one.v parcel n so sn) between.works.now one.answers.1) own notes k)

  pub between_command : (acted : Bool) → OneAnswers (Ok acted) parcel s.now so sn s.filters gs → FiltersReady gs sn → IsBetweenTurns (record s { filters = gs; ignored = 0 }) sn
  between_command true one ready =
      let is = its_filter (Ok true) one in
      let file = one.answers.offers.adds.file in
      let put = one.answers.puts in
      between_acted so sn s gs parcel.agent addressed.low addressed.high (goes_on-trans file.each.goes_on put.disk.disk.goes_on)
      (λ other ne. stays-trans file.each.goes_on put.disk.disk.goes_on (file.others other (λ e. ne (e ∙ is.of_agent))) (put.disk.disk.stays other))
      (put.time.now ∙ ap (λ (c : ClockView). c.now) file.rest.clock) (are_after (Ok true) one ready) between
  between_command false one ready =
      let put = one.answers.puts in
      between_acted so sn s gs parcel.agent addressed.low addressed.high put.disk.disk.goes_on (λ other ne. put.disk.disk.stays other) put.time.now (are_after (Ok false) one ready) between

-- ---- a reply

-- no run up to this one takes it
pub none_takes : (engines : List EngineView) (parcel : Parcel) (place : ℕ) → ((k : ℕ) (v : EngineView) (read : Answer) → k < place → slice_get engines k ≡ Some v → IsReplyTo v.history parcel read → ⊥)
    → ((v : EngineView) (read : Answer) → slice_get engines place ≡ Some v → IsReplyTo v.history parcel read → ⊥)
    → (k : ℕ) (v : EngineView) (read : Answer) → k < place + 1 → slice_get engines k ≡ Some v → IsReplyTo v.history parcel read → ⊥
none_takes engines parcel place lower here k v read lt there is = elim (cases_lt k place) [
  | inl less ↦ lower k v read less there is
  | inr ge ↦ last (omega (arith, lt, ge))
]
  where
    last : k ≡ place → ⊥
    last e = here v read (subst (λ (n : ℕ). slice_get engines n ≡ Some v) e there) is

-- nor does any
pub nobody_takes : (engines : List EngineView) (parcel : Parcel) (place : ℕ) → length engines ≤ place → ((k : ℕ) (v : EngineView) (read : Answer) → k < place → slice_get engines k ≡ Some v → IsReplyTo v.history parcel read → ⊥)
    → (k : ℕ) (v : EngineView) (read : Answer) → slice_get engines k ≡ Some v → IsReplyTo v.history parcel read → ⊥
nobody_takes engines parcel place most lower k v read there is = lower k v read (let lt = below engines k v there in omega (arith, lt, most)) there is

-- ---- where nothing changed yet

pub same_fleet : (s : Fleet) → IsSameFleet s s
same_fleet s = record { engines = refl; filters = refl; now = refl; left = refl; turn = refl; ignored = refl }

pub same_then : (s t u : Fleet) → IsSameFleet s t → IsSameFleet t u → IsSameFleet s u
same_then s t u one two = record {
  engines = two.engines ∙ one.engines;
  filters = two.filters ∙ one.filters;
  now = two.now ∙ one.now;
  left = two.left ∙ one.left;
  turn = two.turn ∙ one.turn;
  ignored = two.ignored ∙ one.ignored;
}

counts_same : (s t : Fleet) (notes : Shared) → IsSameFleet s t → Counts s notes → Counts t notes
counts_same s t notes same counts = record { left = counts.left ∙ sym same.left; turn = counts.turn ∙ sym same.turn; ignored = counts.ignored ∙ sym same.ignored }

-- what holds of the world of one holds of that of the other
world_same : (P : FleetWorld → Type 0) (so lo : SiteView) (s l : Fleet) (own : ℕ → Own) (notes : Shared) (p : Phase) (k : ℕ) → IsSameFleet s l → lo ≡ so → P (world_of lo l own notes p k) → P (world_of so s own notes p k)
world_same P so lo s l own notes p k same stays is =
    subst (λ (es : List EngineView). P (at so es own s.filters notes p k)) same.engines
    (subst (λ (fs : List ActuatorView). P (at so l.engines.items own fs notes p k)) same.filters (subst (λ (x : SiteView). P (at x l.engines.items own l.filters notes p k)) stays is))

pub goes_same : (so lo sn : SiteView) (s l t : Fleet) (p q : Phase) → IsSameFleet s l → lo ≡ so → Goes lo l p sn t q → Goes so s p sn t q
goes_same so lo sn s l t p q same stays goes own notes k counts =
    world_same (λ (w : FleetWorld). Leads w sn t q) so lo s l own notes p k same stays (goes own notes k (counts_same s l notes same counts))

pub refuses_same : (error : FleetError) (so lo sn : SiteView) (s l : Fleet) (p : Phase) → IsSameFleet s l → lo ≡ so → FleetRefuses error lo l p sn → FleetRefuses error so s p sn
refuses_same error so lo sn s l p same stays refuses own notes k counts =
    world_same (λ (w : FleetWorld). RefusesAt error sn w) so lo s l own notes p k same stays (refuses own notes k (counts_same s l notes same counts))

pub not_here : (engines others : List EngineView) (parcel : Parcel) (place : ℕ) → engines ≡ others → ((v : EngineView) (read : Answer) → slice_get engines place ≡ Some v → IsReplyTo v.history parcel read → ⊥)
    → (v : EngineView) (read : Answer) → slice_get others place ≡ Some v → IsReplyTo v.history parcel read → ⊥
not_here engines others parcel place same none =
    subst (λ (l : List EngineView). (v : EngineView) (read : Answer) → slice_get l place ≡ Some v → IsReplyTo v.history parcel read → ⊥) same none

pub nobody_here : (engines others : List EngineView) (parcel : Parcel) → engines ≡ others → ((k : ℕ) (v : EngineView) (read : Answer) → slice_get engines k ≡ Some v → IsReplyTo v.history parcel read → ⊥)
    → (k : ℕ) (v : EngineView) (read : Answer) → slice_get others k ≡ Some v → IsReplyTo v.history parcel read → ⊥
nobody_here engines others parcel same none k = not_here engines others parcel k same (none k)
