-- When a fleet holds a parcel, and what its filters gain.
use Rattle.std.proofs.Common.{◌≡◌, ℕ, false, List, [], length, refl, sym, ◌∙◌, subst, ap}
use Rattle.std.specs.Prelude.{Some, slice_get}
use Rattle.std.proofs.lemmas.List.{append-nil}
use Rattle.cacao_site.specs.RunViews.{file_of}
use Rattle.cacao_site.specs.View.{SiteView}
use Rattle.cacao_site.specs.declared.parcel.Parcel.{Parcel}
use Rattle.run_records.specs.declared.record.Record.{Record}
use Rattle.flow_engine.specs.EngineView.{EngineView}
use Rattle.slpf_actuator.specs.ActuatorView.{ActuatorView}
use Rattle.flow_world_steps.specs.Appends.{Tries}
use Rattle.flow_world_steps.specs.Appends.Tries.{done, failed, limited}
use Rattle.flow_world_steps.specs.Grown.{FiltersGrow}
use Rattle.flow_world_steps.specs.Worlds.{World, holds, opened}
use Rattle.flow_world_steps.proofs.Grown.{grow-trans, step_grows}
use Rattle.flow_fleet_sessions.proofs.Steps.{HandIsEmpty, empty_looked, empty_owes, empty_reached, empty_refused, empty_rests}
use Rattle.flow_fleet_steps.specs.Openings.{OpensJournals, Runs}
use Rattle.flow_fleet_steps.specs.Openings.OpensJournals.{nothing as no_journal, and_then as one_journal}
use Rattle.flow_fleet_steps.specs.Steps.{FleetStep, FleetSteps}
use Rattle.flow_fleet_steps.specs.Steps.FleetStep.{opens_clock, finds_run_used, asks_clock, finds_late, begins, moves, expires, says, fails_to_say, puts_first, resends}
use Rattle.flow_fleet_steps.specs.Steps.FleetStep.{takes, finds_none, fails_to_take, drops, replies, ignores_reply, acts_on, repeats_reply, fails_to_act, wants_memory_now}
use Rattle.flow_fleet_steps.specs.Steps.FleetSteps.{nothing, and_then}
use Rattle.flow_fleet_steps.specs.Turns.{IsSettled}
use Rattle.flow_fleet_steps.specs.Worlds.{EachRun, FleetWorld, Own, part}
use Rattle.flow_fleet.proofs.Places.{settled_stays}
use Rattle.flow_fleet_sums.proofs.StepKinds.{Kind, kind_of}
use Rattle.flow_fleet_sums.proofs.StepKinds.Kind.{filter, puts, quiet, tries}

-- ---- the parcel in hand

-- Where a parcel is in hand, which was taken at this beat, it is the beat of now; each run has begun, and its file holds its records.
pub record IsHeldAt (beat : ℕ) (w : FleetWorld) : Type 0 where
  pub settled : EachRun w.engines (IsSettled w.site)
  pub now : beat ≡ w.site.disk.beat

abbrev HoldsWell : FleetWorld → Type 0
HoldsWell w = (beat : ℕ) (parcel : Parcel) → w.phase ≡ holds beat parcel → IsHeldAt beat w

none_held : (w : FleetWorld) → HandIsEmpty w.phase → HoldsWell w
none_held w empty beat parcel at = absurd (empty beat parcel at)

tried_empty : (IsNext : Record → Type 0) (old new : World) → Tries IsNext old new → HandIsEmpty new.phase
tried_empty IsNext old new (done is) = empty_owes new.phase is.phase
tried_empty IsNext old new (failed is) = empty_refused new.phase _ false is.phase
tried_empty IsNext old new (limited what is) = empty_refused new.phase _ false is.phase

same_beat : (at beat : ℕ) (p q : Parcel) → holds at p ≡ holds beat q → beat ≡ at
same_beat at beat p q e = cc

step_holds : (old new : FleetWorld) → FleetStep old new → HoldsWell new
step_holds old new (opens_clock answer is) = none_held new (empty_reached new.phase _ answer is.goes.phase)
step_holds old new (finds_run_used place agent is) = none_held new (empty_refused new.phase _ _ is.only.phase)
step_holds old new (asks_clock moment answer is) = none_held new (empty_reached new.phase moment answer is.goes.phase)
step_holds old new (finds_late moment is) = none_held new (empty_refused new.phase _ _ is.only.phase)
step_holds old new (begins place is) = none_held new (tried_empty _ _ _ is.does.does.tries)
step_holds old new (moves place is) = none_held new (tried_empty _ _ _ is.does.does.tries)
step_holds old new (expires place issue is) = none_held new (tried_empty _ _ _ is.does.does.tries)
step_holds old new (says place v bytes is) = none_held new (empty_rests new.phase is.phase)
step_holds old new (fails_to_say place v bytes is) = none_held new (empty_refused new.phase _ _ is.phase)
step_holds old new (puts_first place issue is) = none_held new (empty_rests new.phase is.does.does.puts.phase)
step_holds old new (resends place issue is) = none_held new (empty_rests new.phase is.does.does.puts.phase)
step_holds old new (takes parcel is) = λ beat other at. record {
  settled = λ place v there.
      let before = is.turn.settled place v (subst (λ (l : List EngineView). slice_get l place ≡ Some v) is.sides.engines there) in
      settled_stays place v old.site new.site is.only.disk.disk.goes_on (is.only.disk.disk.stays (file_of place)) before;
  now = same_beat new.site.disk.beat beat parcel other (sym is.phase ∙ at);
}
step_holds old new (finds_none is) = none_held new (empty_looked new.phase is.phase)
step_holds old new (fails_to_take is) = none_held new (empty_refused new.phase _ _ is.phase)
step_holds old new (drops beat parcel is) = none_held new (empty_rests new.phase is.ignores.phase)
step_holds old new (replies beat parcel place is) = none_held new (tried_empty _ _ _ is.does.does.tries)
step_holds old new (ignores_reply beat parcel is) = none_held new (empty_rests new.phase is.ignores.phase)
step_holds old new (acts_on beat parcel v w is) = none_held new (empty_rests new.phase is.does.phase)
step_holds old new (repeats_reply beat parcel v w is) = none_held new (empty_rests new.phase is.does.ignores.phase)
step_holds old new (fails_to_act beat parcel v w error cause is) = none_held new (empty_refused new.phase cause false is.does.phase)
step_holds old new (wants_memory_now is) = none_held new (empty_refused new.phase _ _ is.only.phase)

pub opened_empty : (w : FleetWorld) → w.phase ≡ opened → HandIsEmpty w.phase
opened_empty w first beat parcel at = let e : opened ≡ holds beat parcel = sym first ∙ at in cc

pub steps_hold : (a b : FleetWorld) → a.phase ≡ opened → FleetSteps a b → (beat : ℕ) (parcel : Parcel) → b.phase ≡ holds beat parcel → IsHeldAt beat b
steps_hold a b first nothing = none_held a (opened_empty a first)
steps_hold a b first (and_then {mid} steps step) = step_holds mid b step

-- ---- what the filters gain

-- beside any run, which plays no part in it
module _ (e : EngineView) (o : Own) where
  abbrev pub beside : FleetWorld → World
  beside w = part 0 e o w

  grows_as : (old new : FleetWorld) (place : ℕ) (v w : EngineView) (a b : Own) → FiltersGrow (part place v a old) (part place w b new) → FiltersGrow (beside old) (beside new)
  grows_as old new place v w a b is = record { acted = is.acted; acts = is.acts; many = is.many; each = is.each }

  none_grown : (old new : FleetWorld) → new.filters ≡ old.filters → new.notes.acted ≡ old.notes.acted → FiltersGrow (beside old) (beside new)
  none_grown old new filters acted = record {
    acted = [];
    acts = acted ∙ sym (append-nil old.notes.acted);
    many = ap (λ (l : List ActuatorView). length l) filters;
    each = λ k f there. record {
      now = f;
      there = subst (λ (l : List ActuatorView). slice_get l k ≡ Some f) (sym filters) there;
      agent = refl;
      has = sym (append-nil f.acts);
    };
  }

  kind_grows : (old new : FleetWorld) → Kind old new → FiltersGrow (beside old) (beside new)
  kind_grows old new (tries place v w own IsNext is try) = grows_as old new place v w (old.own place) own (step_grows _ _ is.step)
  kind_grows old new (puts place issue v w own is put) = grows_as old new place v w (old.own place) own (step_grows _ _ is.step)
  kind_grows old new (filter v is did) = grows_as old new 0 v v (old.own 0) (old.own 0) (step_grows _ _ is.step)
  kind_grows old new (quiet is) = none_grown old new is.sides.filters is.acted

  pub fleet_steps_grow : (a b : FleetWorld) → FleetSteps a b → FiltersGrow (beside a) (beside b)
  fleet_steps_grow a b nothing = none_grown a a refl refl
  fleet_steps_grow a b (and_then {mid} steps step) = grow-trans (beside a) (beside mid) (beside b) (fleet_steps_grow a mid steps) (kind_grows mid b (kind_of mid b step))

-- ---- the opening

-- an opening leaves the link as it was
pub same_link : (runs : Runs) (start : SiteView) (many : ℕ) (site : SiteView) (engines : List EngineView) → OpensJournals runs start many site engines → site.link ≡ start.link
same_link runs start many site engines no_journal = refl
same_link runs start many site engines (one_journal {n} {old} {new} {before} run given v was there is) = is.opens.only.rest.link ∙ same_link runs start n old before was
