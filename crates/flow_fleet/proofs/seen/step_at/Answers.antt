-- By the label it is the same rack, seen from the same place.
use Rattle.std.proofs.Common.{ap, sym, ◌∙◌}
use Rattle.flow_engine.specs.EngineCalls.{IsMove, Refused}
use Rattle.cacao_site.specs.RunViews.{seen_from as lent_from}
use Rattle.flow_fleet_laws.specs.Views.{seen_from}
use Rattle.flow_fleet.proofs.Unnamed.{IsLent, appends_back, err_map, ready_lent, ready_tried, refused_back}
use Rattle.flow_fleet.proofs.seen.step_at.Goals as goal

pub step-requires-clause-ready : goal.step-requires-clause-ready
step-requires-clause-ready g c =
    let was = c.new-view.result in
    ready_lent c.args.engine.now.history c.args.place was.place was.rack.ghost_name (g.R.Disk.view c.args.rack.now) (g.R.Disk.view was.rack.now) c.new-view.ensures.place (ap g.R.Disk.view c.new-view.ensures.rack) c.requires.ready

pub returns-clause-ready : goal.returns-clause-ready
returns-clause-ready g c =
    let v = c.step.new.site in
    let was = c.new-view.result in
    let end = c.rack-1.given in
    let lent : IsLent c.args.place was.place was.rack.ghost_name v.place v.rack.ghost_name (g.R.Disk.view c.args.rack.now) (g.R.Disk.view was.rack.now) (g.R.Disk.view v.rack.now) (g.R.Disk.view end.0) = record {
      is = c.new-view.ensures.place;
      was = ap g.R.Disk.view c.new-view.ensures.rack;
      end = λ same. ap g.R.Disk.view (end.1 (sym c.new-view.ensures.same_reference ∙ sym same));
    } in
    ready_tried c.args.place was.place was.rack.ghost_name v.place v.rack.ghost_name (g.R.Disk.view c.args.rack.now) (g.R.Disk.view was.rack.now) (g.R.Disk.view v.rack.now) (g.R.Disk.view end.0) lent c.args.engine.now c.step.new.self (IsMove c.args.engine.now.history c.args.moment) c.step.result c.step.ensures.stepped (λ e. ap (λ s. lent_from s.place s.rack.ghost_name (g.R.Disk.view s.rack.now)) (c.step.ensures.idle_stays e).1) c.step.ensures.refused c.step.ensures.ready

pub returns-clause-stepped : goal.returns-clause-stepped
returns-clause-stepped g c = λ e.
    let v = c.step.new.site in
    let was = c.new-view.result in
    let end = c.rack-1.given in
    let lent : IsLent c.args.place was.place was.rack.ghost_name v.place v.rack.ghost_name (g.R.Disk.view c.args.rack.now) (g.R.Disk.view was.rack.now) (g.R.Disk.view v.rack.now) (g.R.Disk.view end.0) = record {
      is = c.new-view.ensures.place;
      was = ap g.R.Disk.view c.new-view.ensures.rack;
      end = λ same. ap g.R.Disk.view (end.1 (sym c.new-view.ensures.same_reference ∙ sym same));
    } in
    appends_back c.args.place was.place was.rack.ghost_name v.place v.rack.ghost_name (g.R.Disk.view c.args.rack.now) (g.R.Disk.view was.rack.now) (g.R.Disk.view v.rack.now) (g.R.Disk.view end.0) lent c.args.engine.now c.step.new.self (IsMove c.args.engine.now.history c.args.moment) (c.step.ensures.stepped e)

pub returns-clause-refused : goal.returns-clause-refused
returns-clause-refused g c =
    let v = c.step.new.site in
    let was = c.new-view.result in
    let end = c.rack-1.given in
    let lent : IsLent c.args.place was.place was.rack.ghost_name v.place v.rack.ghost_name (g.R.Disk.view c.args.rack.now) (g.R.Disk.view was.rack.now) (g.R.Disk.view v.rack.now) (g.R.Disk.view end.0) = record {
      is = c.new-view.ensures.place;
      was = ap g.R.Disk.view c.new-view.ensures.rack;
      end = λ same. ap g.R.Disk.view (end.1 (sym c.new-view.ensures.same_reference ∙ sym same));
    } in
    err_map (λ e. Refused c.args.engine.now c.step.new.self (IsMove c.args.engine.now.history c.args.moment) e (lent_from was.place was.rack.ghost_name (g.R.Disk.view was.rack.now)) (lent_from v.place v.rack.ghost_name (g.R.Disk.view v.rack.now))) (λ e. Refused c.args.engine.now c.step.new.self (IsMove c.args.engine.now.history c.args.moment) e (seen_from c.args.place (g.R.Disk.view c.args.rack.now)) (seen_from c.args.place (g.R.Disk.view end.0))) c.step.result
    (λ e. refused_back c.args.place was.place was.rack.ghost_name v.place v.rack.ghost_name (g.R.Disk.view c.args.rack.now) (g.R.Disk.view was.rack.now) (g.R.Disk.view v.rack.now) (g.R.Disk.view end.0) lent c.args.engine.now c.step.new.self (IsMove c.args.engine.now.history c.args.moment) e) c.step.ensures.refused
