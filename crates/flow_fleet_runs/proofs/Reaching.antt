-- How far a whole fleet asks its clock to come.
use Rattle.std.proofs.Common.{◌≡◌, inl, inr, ℕ, ◌≤◌, List, ◌++◌, refl, ◌∙◌, subst, ap, arith}
use Rattle.std.specs.Prelude.{Option, Some, None, min, slice_get}
use Rattle.std.specs.Option.{option_map_or}
use Rattle.cacao_site.specs.View.{ClockView, SiteView}
use Rattle.run_records.specs.declared.record.Record.{Record}
use Rattle.flow_engine_history.specs.Histories.{IsSoFar}
use Rattle.flow_engine.specs.EngineView.{EngineView}
use Rattle.flow_world_steps.proofs.Issues.{below}
use Rattle.flow_fleet_steps.specs.Laws.{FleetWent}
use Rattle.flow_fleet_steps.specs.Openings.{IsFleetOpened, OpensJournals, RefusesFleetOpening, Runs}
use Rattle.flow_fleet_steps.specs.Openings.OpensJournals.{nothing as no_journal, and_then as one_journal}
use Rattle.flow_fleet_steps.specs.Steps.{FleetSteps}
use Rattle.flow_fleet_steps.specs.Turns.{IsLeastNext}
use Rattle.flow_fleet_steps.specs.Worlds.{FleetWorld}
use Rattle.flow_fleet_steps.specs.declared.error.FleetError.{FleetError}
use Rattle.flow_fleet_sums.specs.Asks.{FleetAsksOnly, FleetCameNext}
use Rattle.flow_fleet_sums.specs.Sums.{FleetAdds, of_place}
use Rattle.flow_fleet_sums.proofs.Adding.{fleet_steps_add, there_of}
use Rattle.flow_fleet_sums.proofs.Asked.{fleets_ask}
use Rattle.flow_fleet_runs.specs.Reached.{EachFleetCloseReaches, EachFleetRefusalReaches, ReachesNoFurther, WasDue}
use Rattle.flow_fleet_runs.proofs.Known.{are_histories}

-- ---- while files are opened

same_clock : (runs : Runs) (start : SiteView) (many : ℕ) (site : SiteView) (engines : List EngineView) → OpensJournals runs start many site engines → site.clock ≡ start.clock
same_clock runs start many site engines no_journal = refl
same_clock runs start many site engines (one_journal {n} {old} {new} {before} run given v was there is) = is.opens.only.rest.clock ∙ same_clock runs start n old before was

clock_stays : (error : FleetError) (runs : Runs) (old new : SiteView) → RefusesFleetOpening error runs old new → new.clock ≡ old.clock
clock_stays error runs old new (inl r) = r.refuses.opens.only.rest.clock ∙ same_clock runs old _ r.middle r.engines r.before
clock_stays error runs old new (inr r) = (r.refuses).refuses.opens.only.rest.clock ∙ (r.refuses).before.rest.clock ∙ same_clock runs old _ r.middle r.engines r.journals

-- ---- what was due

no_later : (at moment : ℕ) (resend : Option (ℕ × ℕ)) → moment ≡ option_map_or (λ (next : ℕ × ℕ). min at next.0) resend at → moment ≤ at
no_later at moment None e = omega (arith, e)
no_later at moment (Some next) e = let is : moment ≡ min at next.0 = e in omega (arith, is)

module _ (a b : FleetWorld) (came : FleetCameNext a b b.site.clock.furthest) where
  next : IsLeastNext came.w.engines b.site.clock.furthest
  next = came.next.next

  first : FleetAdds a came.w
  first = fleet_steps_add a came.w came.before

  later : FleetAdds came.w b
  later = fleet_steps_add came.w b came.after

  module _ (place : ℕ) (x : EngineView) (there : slice_get came.w.engines place ≡ Some x) where
    at_first : (v : EngineView) × (slice_get a.engines place ≡ Some v)
    at_first = there_of a.engines place (let lt = below came.w.engines place x there in let many = first.many in omega (arith, lt, many))

    at_last : (w : EngineView) × (slice_get b.engines place ≡ Some w)
    at_last = there_of b.engines place (let lt = below came.w.engines place x there in let many = later.many in omega (arith, lt, many))

  was_due : ((place : ℕ) (x : EngineView) → slice_get came.w.engines place ≡ Some x → IsSoFar x.history.records x.history.seen) → WasDue a b b.site.clock.furthest
  was_due so =
      let v = at_first next.place next.v next.there in
      let w = at_last next.place next.v next.there in
      let one = first.each next.place v.0 next.v v.1 next.there in
      let two = later.each next.place next.v w.0 next.there w.1 in
      record {
        place = next.place;
        v = v.0;
        w = w.0;
        there = v.1;
        here = w.1;
        front = of_place next.place first.added;
        back = of_place next.place later.added;
        is = two.is ∙ ap (λ (l : List Record). l ++ of_place next.place later.added) one.is;
        seen = next.v.history.seen;
        so_far = subst (λ (l : List Record). IsSoFar l next.v.history.seen) one.is (so next.place next.v next.there);
        run = one.run;
        given = one.given;
        at = next.of_one.at;
        due_is = next.of_one.due_is;
        no_later = no_later next.of_one.at b.site.clock.furthest next.of_one.resend next.of_one.is;
        in_time = came.in_time;
      }

-- ---- whole fleets

by_asking : (a b : FleetWorld) (runs : Runs) (most : ℕ) → IsFleetOpened a runs most → FleetSteps a b → FleetAsksOnly a b → ReachesNoFurther a b a.site.clock.furthest b.site.clock.furthest
by_asking a b runs most begins steps (inl within) = inl within
by_asking a b runs most begins steps (inr (inl last)) = inr (inl (let is = last.1 in omega (arith, is)))
by_asking a b runs most begins steps (inr (inr came)) =
    inr (inr (was_due a b came (λ place x there. (are_histories a came.w runs most begins came.before place x there).so_far)))

went_reaches : (runs : Runs) (most : ℕ) (old new : SiteView) → (went : FleetWent runs most old new) → ReachesNoFurther went.start went.to old.clock.furthest new.clock.furthest
went_reaches runs most old new went =
    let clock : went.start.site.clock ≡ old.clock = went.files.others.rest.clock ∙ same_clock runs old _ went.files.middle went.start.engines went.files.journals in
    subst (λ (n : ℕ). ReachesNoFurther went.start went.to n new.clock.furthest) (ap (λ (c : ClockView). c.furthest) clock)
    (subst (λ (s : SiteView). ReachesNoFurther went.start went.to went.start.site.clock.furthest s.clock.furthest) went.to_is
    (by_asking went.start went.to runs most went.begins went.steps (fleets_ask went.start went.to went.steps)))

pub fleet_closes_reach : EachFleetCloseReaches
fleet_closes_reach how runs most old new closed = went_reaches runs most old new closed.went

pub fleet_refusals_reach : EachFleetRefusalReaches
fleet_refusals_reach error runs most old new (inl opening) = clock_stays error runs old new opening
fleet_refusals_reach error runs most old new (inr later) = went_reaches runs most old new later.went
