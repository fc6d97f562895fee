use Rattle.std.proofs.Common.{◌≡◌, ◌∙◌, ℕ, List, refl, sym, ap, subst, arith}
use Rattle.std.specs.Prelude.{Ok}
use Rattle.flow_engine.specs.EngineView.{EngineView}
use Rattle.flow_fleet_steps.specs.Turns.{last_of}
use Rattle.flow_fleet_steps.specs.Worlds.{EachRun}
use Rattle.flow_fleet.specs.Searches.{IsFirstUsed, IsUnusedBy}
use Rattle.flow_world_steps.specs.Worlds.{opened}
use Rattle.flow_world_parts.specs.Clock.{IsTooLate}
use Rattle.flow_world_parts.specs.declared.error.WorldError.{WorldError}
use Rattle.flow_fleet_steps.specs.Errors.{fleet_refusal}
use Rattle.flow_fleet_steps.specs.declared.close.FleetClose.TheVariants as close
use Rattle.flow_fleet_steps.specs.declared.error.FleetError.{FleetError}
use Rattle.flow_fleet.specs.Leads.{EndedAt, RefusesAt, at}
use Rattle.flow_fleet.proofs.OpenLemmas.{opened_late, opened_now, opened_short, reached_is, reached_works, short_is, used_before}
use Rattle.flow_fleet.proofs.opening.run_opened.Goals as goal

pub first_used-requires-clause-filters : goal.first_used-requires-clause-filters
first_used-requires-clause-filters g c = let all = c.requires.filters.all in omega (arith, all)

pub returns-in-Some : goal.returns-in-Some
returns-in-Some g c = record {
  ended = λ own notes k new. used_before (g.R.Disk.view c.args.rack.now) c.args.engines.items own c.args.filters notes k c.in-Some.run' c.in-Some.agent
      (subst (λ (l : List EngineView). IsFirstUsed l c.args.filters c.in-Some.run' c.in-Some.agent) c.deref.ensures.value c.in-Some.ensures);
}

pub returns-in-Err : goal.returns-in-Err
returns-in-Err g c = record {
  ended = λ own notes k new.
      let so = g.R.Disk.view c.args.rack.now in
      let sn = g.R.Disk.view c.reach.new.site in
      subst (λ (e : FleetError). RefusesAt e sn (at so c.args.engines.items own c.args.filters notes opened k)) (sym (c.of.ensures ∙ ap (λ (x : WorldError). fleet_refusal 0 0 x) c.in-Err.ensures.late.0))
      (opened_late so c.args.engines.items own c.args.filters notes k (g.met.R.Disk.sound c.args.rack.now) c.requires.stands (subst (λ (l : List EngineView). EachRun l (λ place. IsUnusedBy c.args.filters)) c.deref.ensures.value c.in_default.ensures) sn
      (subst (λ (n : ℕ). IsTooLate n so sn) (c.last_moment-last.ensures ∙ ap (λ (l : List EngineView). last_of l) c.deref-2.ensures.value) c.in-Err.ensures.late.1));
}

pub returns-in-Ok-None : goal.returns-in-Ok-None
returns-in-Ok-None g c = record {
  ended = λ own notes k new.
      let so = g.R.Disk.view c.args.rack.now in
      let sn = g.R.Disk.view c.reach.new.site in
      subst (λ (n : ℕ). EndedAt (Ok (close.Waiting n)) sn (at so c.args.engines.items own c.args.filters notes opened k)) (sym (c.last_moment-last.ensures ∙ ap (λ (l : List EngineView). last_of l) c.deref-2.ensures.value))
      (opened_short so c.args.engines.items own c.args.filters notes k (g.met.R.Disk.sound c.args.rack.now) c.requires.stands (subst (λ (l : List EngineView). EachRun l (λ place. IsUnusedBy c.args.filters)) c.deref.ensures.value c.in_default.ensures) sn
      (short_is c.last_moment-last.result (last_of c.args.engines.items) so sn c.in-Ok-None.field-0 (c.last_moment-last.ensures ∙ ap (λ (l : List EngineView). last_of l) c.deref-2.ensures.value) c.in-Ok-None.field-0-is c.in-Ok-None.ensures.reached));
}

pub returns-in-Ok-Some : goal.returns-in-Ok-Some
returns-in-Ok-Some g c = record {
  ended = λ own notes k new.
      let so = g.R.Disk.view c.args.rack.now in
      let sn = g.R.Disk.view c.reach.new.site in
      opened_now so c.args.engines.items own c.args.filters notes k (g.met.R.Disk.sound c.args.rack.now) c.requires.stands (subst (λ (l : List EngineView). EachRun l (λ place. IsUnusedBy c.args.filters)) c.deref.ensures.value c.in_default.ensures) c.in-Ok-Some.now sn c.args.most
      (record { alloc = c.args.alloc; engines = c.args.engines; filters = c.args.filters; now = c.in-Ok-Some.now; left = c.args.most; turn = 0; ignored = 0 }) c.run.result (g.R.Disk.view c.run.new.rack) new
      (reached_is c.last_moment-last.result (last_of c.args.engines.items) so sn c.in-Ok-Some.field-0 c.in-Ok-Some.now (c.last_moment-last.ensures ∙ ap (λ (l : List EngineView). last_of l) c.deref-2.ensures.value) c.in-Ok-Some.field-0-is c.in-Ok-Some.ensures.reached) refl refl refl refl refl c.run.ensures.ended;
}

pub run-requires-clause-works : goal.run-requires-clause-works
run-requires-clause-works g c =
    let so = g.R.Disk.view c.args.rack.now in
    let sn = g.R.Disk.view c.reach.new.site in
    reached_works (record { alloc = c.args.alloc; engines = c.args.engines; filters = c.args.filters; now = c.in-Ok-Some.now; left = c.args.most; turn = 0; ignored = 0 }) so sn c.in-Ok-Some.now c.requires.few c.requires.enough c.requires.stands
    c.requires.filters refl refl
    (reached_is c.last_moment-last.result (last_of c.args.engines.items) so sn c.in-Ok-Some.field-0 c.in-Ok-Some.now (c.last_moment-last.ensures ∙ ap (λ (l : List EngineView). last_of l) c.deref-2.ensures.value) c.in-Ok-Some.field-0-is c.in-Ok-Some.ensures.reached)

pub run-requires-clause-puts : goal.run-requires-clause-puts
run-requires-clause-puts g c = c.requires.puts

pub run-requires-clause-calm : goal.run-requires-clause-calm
run-requires-clause-calm g c = refl
