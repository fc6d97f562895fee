-- Where the calls of a fleet lead, from those of one run; and what stands then.
use Rattle.std.proofs.Common.{◌≡◌, ◌≢◌, inl, inr, ℕ, ◌+◌, ◌<◌, ◌≤◌, true, List, length, refl, sym, ◌∙◌, subst, ap, arith}
use Rattle.std.specs.Prelude.{Option, Some, None, Result, Ok, Err, slice_get, slice_set}
use Rattle.cacao_site.specs.View.{SiteView}
use Rattle.cacao_site.specs.Sound.{IsSound}
use Rattle.flow_core_rules.specs.Changes.{is_in_time}
use Rattle.flow_engine.specs.EngineView.{EngineView}
use Rattle.slpf_actuator.specs.ActuatorView.{ActuatorView}
use Rattle.flow_world_steps.specs.Sides.{AllPut, AreFilters}
use Rattle.flow_world_steps.specs.Worlds.{Phase, looked, rests}
use Rattle.flow_world_steps.proofs.Filters.{get_set, ready_stays}
use Rattle.flow_world_parts.specs.Leads.{IsAtWork}
use Rattle.flow_fleet_laws.specs.Views.{seen_from}
use Rattle.flow_fleet_laws.proofs.Seen.{no_filter}
use Rattle.flow_fleet_steps.specs.Steps.{FleetSteps}
use Rattle.flow_fleet_steps.specs.Steps.FleetSteps.{nothing}
use Rattle.flow_fleet_steps.specs.Turns.{HasLooked, IsSettled, StandsAt}
use Rattle.flow_fleet_steps.specs.Worlds.{EachBelow, EachRun, FleetWorld, Own, Shared}
use Rattle.flow_fleet_steps.specs.declared.close.FleetClose.{FleetClose}
use Rattle.flow_fleet_steps.specs.declared.error.FleetError.{FleetError}
use Rattle.flow_fleet.specs.Leads.{ClosesFrom, Counts, Ended, Goes, HasBegun, IsBetweenTurns, IsWorking, LeavesRest, Refuses, RunGoes, RunRefuses, SomeGoes, Turned, at, world_of}
use Rattle.flow_fleet.specs.declared.fleet_state.Fleet.{Fleet}
use Rattle.flow_fleet.proofs.Places.{length_set, low_place, settled_stays, stands_after}
use Rattle.flow_fleet.proofs.RunSteps.{steps_then}
use Rattle.flow_fleet_laws.proofs.Seen.{journals_differ}
use Rattle.cacao_site.specs.RunViews.{file_of}
use Rattle.cacao_site.specs.DiskCalls.{StaysAt}
use Rattle.std.proofs.lemmas.Bool.{cases_lt}

-- ---- from one run's calls

module _ (P : FleetWorld → Type 0) (place : ℕ) (so sn : SiteView) (s : Fleet) (v : EngineView) (p : Phase) (there : slice_get s.engines.items place ≡ Some v)
    (may : (own : ℕ → Own) (notes : Shared) (k : ℕ) → Counts s notes → P (world_of so s own notes p k)) where
  -- they went on: with the engine in its place, fewer records left, and the turn
  pub run_goes : (n : ℕ) (turn : FleetWorld → ℕ) (w : EngineView) (q : Phase) (t : Fleet) → RunGoes P n turn place so v p sn w q → t.engines.items ≡ slice_set s.engines.items place w → t.filters ≡ s.filters
      → t.left + n ≡ s.left → ((own : ℕ → Own) (notes : Shared) (k : ℕ) → Counts s notes → turn (world_of so s own notes p k) ≡ t.turn) → t.ignored ≡ s.ignored → Goes so s p sn t q
  run_goes n turn w q t goes engines filters left turn_is ignored own notes k counts =
      let leads = goes s.engines.items own s.filters notes k there (may own notes k counts) in
      record {
        own = leads.own;
        notes = leads.notes;
        at_place = leads.at_place;
        steps = subst (λ (l : List EngineView). FleetSteps (world_of so s own notes p k) (at sn l leads.own t.filters leads.notes q leads.at_place)) (sym engines)
            (subst (λ (f : List ActuatorView). FleetSteps (world_of so s own notes p k) (at sn (slice_set s.engines.items place w) leads.own f leads.notes q leads.at_place)) (sym filters) leads.steps);
        counts = record {
          left = omega (arith, leads.left, left, counts.left);
          turn = leads.turn_is ∙ turn_is own notes k counts;
          ignored = leads.ignored ∙ counts.ignored ∙ sym ignored;
        };
      }

  pub run_refuses : (error : FleetError) → RunRefuses P error place so v p sn → Refuses error so s p sn
  run_refuses error refuses own notes k counts = refuses s.engines.items own s.filters notes k there (may own notes k counts)

-- ---- one after another

pub goes_on_to : (so mid sn : SiteView) (s t u : Fleet) (p q r : Phase) → Goes so s p mid t q → Goes mid t q sn u r → Goes so s p sn u r
goes_on_to so mid sn s t u p q r first second own notes k counts =
    let one = first own notes k counts in
    let two = second one.own one.notes one.at_place one.counts in
    record { own = two.own; notes = two.notes; at_place = two.at_place; steps = steps_then one.steps two.steps; counts = two.counts }

pub goes_to_refuse : (error : FleetError) (so mid sn : SiteView) (s t : Fleet) (p q : Phase) → Goes so s p mid t q → Refuses error mid t q sn → Refuses error so s p sn
goes_to_refuse error so mid sn s t p q first second own notes k counts =
    let one = first own notes k counts in
    let two = second one.own one.notes one.at_place one.counts in
    record { to = two.to; steps = steps_then one.steps two.steps; left_is = two.left_is; refuses = two.refuses }

pub goes_to_close : (close : FleetClose) (so mid sn : SiteView) (s t : Fleet) (p q : Phase) → Goes so s p mid t q → ClosesFrom close mid t q sn → ClosesFrom close so s p sn
goes_to_close close so mid sn s t p q first second own notes k counts =
    let one = first own notes k counts in
    let two = second one.own one.notes one.at_place one.counts in
    record { to = two.to; steps = steps_then one.steps two.steps; left_is = two.left_is; closes = two.closes }

pub then_turned : (result : Result (Option FleetClose) FleetError) (so mid sn : SiteView) (s t u : Fleet) (p q : Phase) → Goes so s p mid t q → Turned result mid t q sn u → Turned result so s p sn u
then_turned (Ok None) so mid sn s t u p q first second = goes_on_to so mid sn s t u p q rests first second
then_turned (Ok (Some close)) so mid sn s t u p q first second = goes_to_close close so mid sn s t p q first second
then_turned (Err error) so mid sn s t u p q first second = goes_to_refuse error so mid sn s t p q first second

pub then_ended : (result : Result FleetClose FleetError) (so mid sn : SiteView) (s t : Fleet) (p q : Phase) → Goes so s p mid t q → Ended result mid t q sn → Ended result so s p sn
then_ended (Ok close) so mid sn s t p q first second = goes_to_close close so mid sn s t p q first second
then_ended (Err error) so mid sn s t p q first second = goes_to_refuse error so mid sn s t p q first second

-- nothing was done
pub stays_so : (so : SiteView) (s : Fleet) (p : Phase) → Goes so s p so s p
stays_so so s p own notes k counts = record { own = own; notes = notes; at_place = k; steps = nothing; counts = counts }

-- ---- what stands

pub filters_after : (place : ℕ) (so sn : SiteView) (fs : List ActuatorView) → LeavesRest place so sn → AreFilters fs so → AreFilters fs sn
filters_after place so sn fs stay are = record {
  all = are.all;
  each = λ k v there.
      let is = are.each k v there in
      record {
        ready = ready_stays v so sn stay.on (stay.files v.agent (λ e. absurd (no_filter place v.agent (is.ready.low, is.ready.high) (sym e)))) is.ready;
        whole = is.whole;
        of_agent = is.of_agent;
      };
}

module _ (place : ℕ) (so sn : SiteView) (s t : Fleet) (v w : EngineView) (there : slice_get s.engines.items place ≡ Some v) (stay : LeavesRest place so sn) (work : IsAtWork w (seen_from place sn))
    (engines : t.engines.items ≡ slice_set s.engines.items place w) (filters : t.filters ≡ s.filters) (now : t.now ≡ s.now) (turn : t.turn < length s.engines.items) where
  pub works_after : IsWorking s so → IsWorking t sn
  works_after was = record {
    few = subst (λ (l : List EngineView). length l ≤ 16) (sym engines) (let same = length_set s.engines.items place w in let few = was.few in omega (arith, same, few));
    stands = subst (λ (l : List EngineView). EachRun l (StandsAt sn)) (sym engines) (stands_after place so sn s.engines.items v w there was.few stay was.stands work.up.has_file);
    in_time = subst (λ (l : List EngineView). EachRun l (λ place x. is_in_time x.history.seen sn.clock.now ≡ true)) (sym engines) in_time;
    filters = subst (λ (l : List ActuatorView). AreFilters l sn) (sym filters) (filters_after place so sn s.filters stay was.filters);
    now = now ∙ was.now ∙ sym stay.now;
    turn = subst (λ (l : List EngineView). t.turn < length l) (sym engines) (let same = length_set s.engines.items place w in omega (arith, same, turn));
  }
    where
      in_time : EachRun (slice_set s.engines.items place w) (λ place x. is_in_time x.history.seen sn.clock.now ≡ true)
      in_time k x at = elim (get_set s.engines.items place k w x at) [
        | inl here ↦ subst (λ (y : EngineView). is_in_time y.history.seen sn.clock.now ≡ true) here.1 work.in_time
        | inr other ↦ subst (λ (n : ℕ). is_in_time x.history.seen n ≡ true) (sym stay.now) (was.in_time k x other.1)
      ]

  other_file : (few : length s.engines.items ≤ 16) (k : ℕ) (x : EngineView) → slice_get s.engines.items k ≡ Some x → k ≢ place → StaysAt so.disk sn.disk (file_of k)
  other_file few k x at ne = stay.files (file_of k) (journals_differ k place (low_place s.engines.items k x few at) (low_place s.engines.items place v few there) (λ e. ne (sym e)))

  pub settled_after : length s.engines.items ≤ 16 → AllPut w → EachRun s.engines.items (IsSettled so) → EachRun t.engines.items (IsSettled sn)
  settled_after few put settled = subst (λ (l : List EngineView). EachRun l (IsSettled sn)) (sym engines) (λ k x at. elim (get_set s.engines.items place k w x at) [
    | inl here ↦ subst (λ (n : ℕ). IsSettled sn n x) (sym here.0) (subst (λ (y : EngineView). IsSettled sn place y) here.1 (record { up = work.up; put = put }))
    | inr other ↦ settled_stays k x so sn stay.on (other_file few k x other.1 other.0) (settled k x other.1)
  ])

  pub between_after : IsBetweenTurns s so → AllPut w → t.ignored ≡ s.ignored → IsBetweenTurns t sn
  between_after was put ignored = record {
    works = works_after was.works;
    settled = settled_after was.works.few put was.settled;
    calm = let calm = was.calm in omega (arith, calm, ignored);
  }

  pub begun_after : IsWorking s so → AllPut w → EachBelow place s.engines.items (IsSettled so) → t.ignored ≡ s.ignored → HasBegun place s t sn
  begun_after was put settled ignored = record {
    works = works_after was;
    settled = subst (λ (l : List EngineView). EachBelow (place + 1) l (IsSettled sn)) (sym engines) (λ k x lt at. elim (get_set s.engines.items place k w x at) [
      | inl here ↦ subst (λ (n : ℕ). IsSettled sn n x) (sym here.0) (subst (λ (y : EngineView). IsSettled sn place y) here.1 (record { up = work.up; put = put }))
      | inr other ↦ settled_stays k x so sn stay.on (other_file was.few k x other.1 other.0) (settled k x (less k other.0 lt) other.1)
    ]);
    above = λ k x lt at. elim (get_set s.engines.items place k w x (subst (λ (l : List EngineView). slice_get l k ≡ Some x) engines at)) [
      | inl here ↦ absurd (omega (arith, here.0, lt))
      | inr other ↦ other.1
    ];
    many = ap (λ (l : List EngineView). length l) engines ∙ length_set s.engines.items place w;
    ignored = ignored;
  }
    where
      less : (k : ℕ) → k ≢ place → k < place + 1 → k < place
      less k ne lt = elim (cases_lt k place) [ inl is ↦ is | inr ge ↦ absurd (ne (omega (arith, lt, ge))) ]

-- ---- a turn that has looked

pub looks : (so : SiteView) (s : Fleet) → IsSound so → IsBetweenTurns s so → SomeGoes s.engines.items → 1 ≤ s.left → (own : ℕ → Own) (notes : Shared) (k : ℕ) → Counts s notes
    → HasLooked (world_of so s own notes looked k)
looks so s sound between goes some own notes k counts = record {
  phase = refl;
  sound = sound;
  settled = between.settled;
  on = goes.place;
  goes_on = record { v = goes.v; there = goes.there; has = goes.on };
  budget = let left = counts.left in omega (arith, left, some);
}
