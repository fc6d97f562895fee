-- While a fleet goes on, each run's file holds its records.
use Rattle.std.proofs.Common.{◌≡◌, ◌≢◌, inl, inr, ℕ, ◌+◌, ◌≤◌, List, sym, ◌∙◌, subst, ap, arith}
use Rattle.std.specs.Prelude.{Some, length, slice_get}
use Rattle.cacao_site.specs.DiskCalls.{GoesOn, KeepsDisk, OnlyFile, StaysAt}
use Rattle.cacao_site.specs.RunViews.{file_of}
use Rattle.cacao_site.specs.View.{SiteView}
use Rattle.cacao_site.proofs.Beats.{goes_on-trans, stays-trans}
use Rattle.run_records.specs.declared.record.Record.{Record}
use Rattle.flow_engine_history.specs.HistoryView.{HistoryView}
use Rattle.flow_engine.specs.EngineView.{EngineView}
use Rattle.flow_laws.specs.Images.{IsAgent}
use Rattle.flow_world_steps.specs.Appends.{Tries}
use Rattle.flow_world_steps.specs.Appends.Tries.{done, failed, limited}
use Rattle.flow_world_steps.specs.Sides.{IsWhole}
use Rattle.flow_world_steps.specs.Steps.{PutsCommand}
use Rattle.flow_world_steps.specs.Worlds.{IsGoing, World}
use Rattle.flow_world_steps.proofs.Filters.{get_set}
use Rattle.flow_world_steps.proofs.Issues.{below}
use Rattle.flow_world_steps.proofs.Readiness.{engine_stays}
use Rattle.flow_fleet_laws.specs.Views.{seen_from}
use Rattle.flow_fleet_laws.proofs.Seen.{goes_on-seen, journals_differ, no_filter, stays-seen, views_from_the_first}
use Rattle.flow_fleet_steps.specs.Openings.{IsFleetOpened, Runs}
use Rattle.flow_fleet_steps.specs.Steps.{DoesAt, FiltersDo, FleetStep, FleetSteps}
use Rattle.flow_fleet_steps.specs.Steps.FleetStep.{opens_clock, finds_run_used, asks_clock, finds_late, begins, moves, expires, says, fails_to_say, puts_first, resends}
use Rattle.flow_fleet_steps.specs.Steps.FleetStep.{takes, finds_none, fails_to_take, drops, replies, ignores_reply, acts_on, repeats_reply, fails_to_act, wants_memory_now}
use Rattle.flow_fleet_steps.specs.Steps.FleetSteps.{nothing, and_then}
use Rattle.flow_fleet_steps.specs.Turns.{StandsAt}
use Rattle.flow_fleet_steps.specs.Worlds.{EachRun, FleetWorld, part}
use Rattle.flow_fleet_steps.proofs.Back.{only_back, puts_back}
use Rattle.flow_fleet_steps.proofs.Spending.{fleet_step_going}
use Rattle.flow_fleet_sums.proofs.Adding.{fleet_steps_add}

-- ---- files that stay

-- time goes on, and each file but this one stays
record AllStayBut (file : ℕ) (old new : SiteView) : Type 0 where
  pub on : GoesOn old.disk new.disk
  pub others : (other : ℕ) → other ≢ file → StaysAt old.disk new.disk other

only_stay : (file : ℕ) (P : List ℕ → Type 0) (old new : SiteView) → OnlyFile file old new P → AllStayBut file old new
only_stay file P old new only = record { on = only.each.goes_on; others = only.others }

kept : (file : ℕ) (old new : SiteView) → KeepsDisk old.disk new.disk → AllStayBut file old new
kept file old new keeps = record { on = keeps.goes_on; others = λ other ne. keeps.stays other }

then_kept : (file : ℕ) (old mid new : SiteView) → AllStayBut file old mid → KeepsDisk mid.disk new.disk → AllStayBut file old new
then_kept file old mid new first keeps = record {
  on = goes_on-trans first.on keeps.goes_on;
  others = λ other ne. stays-trans first.on keeps.goes_on (first.others other ne) (keeps.stays other);
}

-- so the journal at another place stands as before
stands_on : (file place : ℕ) (x : EngineView) (old new : SiteView) → file_of place ≢ file → AllStayBut file old new → StandsAt old place x → StandsAt new place x
stands_on file place x old new ne stay is = record {
  engine = engine_stays x (seen_from place old) (seen_from place new) (goes_on-seen place stay.on) (stays-seen place 0 (stay.others (file_of place) ne)) is.engine;
  whole = is.whole;
}

-- ---- all runs

abbrev pub AllStand : FleetWorld → Type 0
AllStand w = EachRun w.engines (StandsAt w.site)

-- no file changed
quiet : (old new : FleetWorld) → KeepsDisk old.site.disk new.site.disk → new.engines ≡ old.engines → AllStand old → AllStand new
quiet old new keeps engines were =
    subst (λ (l : List EngineView). EachRun l (StandsAt new.site)) (sym engines)
    (λ place x there. stands_on (file_of place + 1) place x old.site new.site (λ e. absurd (omega (arith, e))) (kept (file_of place + 1) old.site new.site keeps) (were place x there))

same : (old new : FleetWorld) → new.site ≡ old.site → new.engines ≡ old.engines → AllStand old → AllStand new
same old new site engines were =
    subst (λ (l : List EngineView). EachRun l (StandsAt new.site)) (sym engines) (subst (λ (s : SiteView). EachRun old.engines (StandsAt s)) (sym site) were)

-- one run's file changed, at most
one_run : (Do : World → World → Type 0) (place : ℕ) (old new : FleetWorld) (is : DoesAt Do place old new) → length old.engines ≤ 16 → AllStayBut (file_of place) old.site new.site
    → IsWhole is.w (seen_from place new.site) → AllStand old → AllStand new
one_run Do place old new is few stay whole were k x there =
    elim (get_set old.engines place k is.w x (subst (λ (l : List EngineView). slice_get l k ≡ Some x) is.engines there)) [
      | inl here ↦ subst (λ (n : ℕ). StandsAt new.site n x) (sym here.0) (subst (λ (y : EngineView). StandsAt new.site place y) here.1 whole)
      | inr other ↦
          let low = below old.engines k x other.1 in
          let at = below old.engines place is.v is.there in
          stands_on (file_of place) k x old.site new.site
          (journals_differ k place (omega (arith, low, few)) (omega (arith, at, few)) (λ e. absurd (other.0 (sym e)))) stay (were k x other.1)
    ]

-- a record was tried, and the fleet goes on
tried : (Do : World → World → Type 0) (IsNext : Record → Type 0) (place : ℕ) (old new : FleetWorld) (is : DoesAt Do place old new) → length old.engines ≤ 16 → IsGoing new.phase
    → Tries IsNext (part place is.v (old.own place) old) (part place is.w is.own new) → AllStand old → AllStand new
tried Do IsNext place old new is few going (done did) =
    one_run Do place old new is few (only_stay (file_of place) _ old.site new.site (only_back place _ old.site new.site did.appends.adds.offers.file))
    (record { engine = did.engine; whole = ap (λ (h : HistoryView). h.broken) did.appends.adds.view })
tried Do IsNext place old new is few going (failed did) = absurd (subst IsGoing did.phase going)
tried Do IsNext place old new is few going (limited what did) = absurd (subst IsGoing did.phase going)

-- a command was put
put : (Do : World → World → Type 0) (issue place : ℕ) (old new : FleetWorld) (is : DoesAt Do place old new) → length old.engines ≤ 16
    → PutsCommand issue (part place is.v (old.own place) old) (part place is.w is.own new) → AllStand old → AllStand new
put Do issue place old new is few did were =
    one_run Do place old new is few (kept (file_of place) old.site new.site (puts_back place _ old.site new.site did.sends.put).disk.disk)
    (record { engine = did.engine; whole = ap (λ (v : EngineView). v.history.broken) did.sends.view ∙ (were place is.v is.there).whole }) were

-- a filter's file changed, at most
by_filter : (Do : World → World → Type 0) (agent : ℕ) (old new : FleetWorld) → FiltersDo Do old new → IsAgent agent → AllStayBut agent (seen_from 0 old.site) (seen_from 0 new.site) → AllStand old → AllStand new
by_filter Do agent old new is is_agent stay were =
    let on : AllStayBut agent old.site new.site =
    subst (λ (s : SiteView). AllStayBut agent s new.site) (views_from_the_first old.site) (subst (λ (s : SiteView). AllStayBut agent (seen_from 0 old.site) s) (views_from_the_first new.site) stay) in
    subst (λ (l : List EngineView). EachRun l (StandsAt new.site)) (sym is.engines)
    (λ place x there. stands_on agent place x old.site new.site (no_filter place agent is_agent) on (were place x there))

step_stands : (old new : FleetWorld) → length old.engines ≤ 16 → FleetStep old new → IsGoing new.phase → AllStand old → AllStand new
step_stands old new few (opens_clock answer is) going = quiet old new is.goes.reaches.disk.disk is.goes.sides.engines
step_stands old new few (finds_run_used place agent is) going = same old new is.only.site is.only.sides.engines
step_stands old new few (asks_clock moment answer is) going = quiet old new is.goes.reaches.disk.disk is.goes.sides.engines
step_stands old new few (finds_late moment is) going = same old new is.only.site is.only.sides.engines
step_stands old new few (begins place is) going = tried _ _ place old new is.does few going is.does.does.tries
step_stands old new few (moves place is) going = tried _ _ place old new is.does few going is.does.does.tries
step_stands old new few (expires place issue is) going = tried _ _ place old new is.does few going is.does.does.tries
step_stands old new few (says place v bytes is) going = quiet old new is.speaks.only.disk is.speaks.sides.engines
step_stands old new few (fails_to_say place v bytes is) going = quiet old new is.speaks.only.disk is.speaks.sides.engines
step_stands old new few (puts_first place issue is) going = put _ issue place old new is.does few is.does.does.puts
step_stands old new few (resends place issue is) going = put _ issue place old new is.does few is.does.does.puts
step_stands old new few (takes parcel is) going = quiet old new is.only.disk.disk is.sides.engines
step_stands old new few (finds_none is) going = quiet old new is.only.disk.disk is.sides.engines
step_stands old new few (fails_to_take is) going = quiet old new is.only.disk.disk is.sides.engines
step_stands old new few (drops beat parcel is) going = same old new is.site is.ignores.sides.engines
step_stands old new few (replies beat parcel place is) going = tried _ _ place old new is.does few going is.does.does.tries
step_stands old new few (ignores_reply beat parcel is) going = same old new is.site is.ignores.sides.engines
step_stands old new few (acts_on beat parcel v w is) going =
    let acts = is.does.acts in
    let filter = is.does.holds_command.filter in
    by_filter _ v.agent old new is (filter.ready.low, filter.ready.high)
    (then_kept v.agent (seen_from 0 old.site) acts.between (seen_from 0 new.site) (only_stay v.agent _ (seen_from 0 old.site) acts.between acts.offers.adds.file) acts.puts.disk.disk)
step_stands old new few (repeats_reply beat parcel v w is) going =
    let filter = is.does.holds_command.filter in
    by_filter _ v.agent old new is (filter.ready.low, filter.ready.high) (kept v.agent (seen_from 0 old.site) (seen_from 0 new.site) is.does.repeats.puts.disk.disk)
step_stands old new few (fails_to_act beat parcel v w error cause is) going = absurd (subst IsGoing is.does.phase going)
step_stands old new few (wants_memory_now is) going = same old new is.only.site is.only.sides.engines

pub steps_stand : (a b : FleetWorld) (runs : Runs) (most : ℕ) → length runs ≤ 16 → IsFleetOpened a runs most → FleetSteps a b → IsGoing b.phase → AllStand b
steps_stand a b runs most few first nothing going = first.stands
steps_stand a b runs most few first (and_then {mid} steps step) going =
    let many = (fleet_steps_add a mid steps).many in
    let at_first = first.many in
    step_stands mid b (omega (arith, many, at_first, few)) step going (steps_stand a mid runs most few first steps (fleet_step_going mid b step))
