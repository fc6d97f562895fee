-- By the label it is the same rack, seen from the same place.
use Rattle.std.proofs.Common.{ap, sym, ◌∙◌}
use Rattle.flow_engine.specs.EngineCalls.{Appends, IsBeginning, Refused}
use Rattle.cacao_site.specs.RunViews.{seen_from as lent_from}
use Rattle.flow_fleet_laws.specs.Views.{seen_from}
use Rattle.flow_fleet.proofs.Unnamed.{IsLent, appends_back, err_map, ok_map, ready_by, ready_lent, refused_back}
use Rattle.flow_fleet.proofs.seen.start_at.Goals as goal

pub start-requires-clause-ready : goal.start-requires-clause-ready
start-requires-clause-ready g c =
    let was = c.new-view.result in
    ready_lent c.args.engine.now.history c.args.place was.place was.rack.ghost_name (g.R.Disk.view c.args.rack.now) (g.R.Disk.view was.rack.now) c.new-view.ensures.place (ap g.R.Disk.view c.new-view.ensures.rack) c.requires.ready

pub returns-clause-ready : goal.returns-clause-ready
returns-clause-ready g c =
    let v = c.start.new.site in
    let was = c.new-view.result in
    let end = c.rack-1.given in
    let lent : IsLent c.args.place was.place was.rack.ghost_name v.place v.rack.ghost_name (g.R.Disk.view c.args.rack.now) (g.R.Disk.view was.rack.now) (g.R.Disk.view v.rack.now) (g.R.Disk.view end.0) = record {
      is = c.new-view.ensures.place;
      was = ap g.R.Disk.view c.new-view.ensures.rack;
      end = λ same. ap g.R.Disk.view (end.1 (sym c.new-view.ensures.same_reference ∙ sym same));
    } in
    ready_by c.args.place was.place was.rack.ghost_name v.place v.rack.ghost_name (g.R.Disk.view c.args.rack.now) (g.R.Disk.view was.rack.now) (g.R.Disk.view v.rack.now) (g.R.Disk.view end.0) lent c.args.engine.now c.start.new.self (IsBeginning c.args.engine.now.history c.args.moment) c.start.result c.start.ensures.ok c.start.ensures.refused c.start.ensures.ready

pub returns-clause-ok : goal.returns-clause-ok
returns-clause-ok g c =
    let v = c.start.new.site in
    let was = c.new-view.result in
    let end = c.rack-1.given in
    let lent : IsLent c.args.place was.place was.rack.ghost_name v.place v.rack.ghost_name (g.R.Disk.view c.args.rack.now) (g.R.Disk.view was.rack.now) (g.R.Disk.view v.rack.now) (g.R.Disk.view end.0) = record {
      is = c.new-view.ensures.place;
      was = ap g.R.Disk.view c.new-view.ensures.rack;
      end = λ same. ap g.R.Disk.view (end.1 (sym c.new-view.ensures.same_reference ∙ sym same));
    } in
    ok_map (Appends c.args.engine.now c.start.new.self (IsBeginning c.args.engine.now.history c.args.moment) (lent_from was.place was.rack.ghost_name (g.R.Disk.view was.rack.now)) (lent_from v.place v.rack.ghost_name (g.R.Disk.view v.rack.now))) (Appends c.args.engine.now c.start.new.self (IsBeginning c.args.engine.now.history c.args.moment) (seen_from c.args.place (g.R.Disk.view c.args.rack.now)) (seen_from c.args.place (g.R.Disk.view end.0))) c.start.result
    (appends_back c.args.place was.place was.rack.ghost_name v.place v.rack.ghost_name (g.R.Disk.view c.args.rack.now) (g.R.Disk.view was.rack.now) (g.R.Disk.view v.rack.now) (g.R.Disk.view end.0) lent c.args.engine.now c.start.new.self (IsBeginning c.args.engine.now.history c.args.moment)) c.start.ensures.ok

pub returns-clause-refused : goal.returns-clause-refused
returns-clause-refused g c =
    let v = c.start.new.site in
    let was = c.new-view.result in
    let end = c.rack-1.given in
    let lent : IsLent c.args.place was.place was.rack.ghost_name v.place v.rack.ghost_name (g.R.Disk.view c.args.rack.now) (g.R.Disk.view was.rack.now) (g.R.Disk.view v.rack.now) (g.R.Disk.view end.0) = record {
      is = c.new-view.ensures.place;
      was = ap g.R.Disk.view c.new-view.ensures.rack;
      end = λ same. ap g.R.Disk.view (end.1 (sym c.new-view.ensures.same_reference ∙ sym same));
    } in
    err_map (λ e. Refused c.args.engine.now c.start.new.self (IsBeginning c.args.engine.now.history c.args.moment) e (lent_from was.place was.rack.ghost_name (g.R.Disk.view was.rack.now)) (lent_from v.place v.rack.ghost_name (g.R.Disk.view v.rack.now))) (λ e. Refused c.args.engine.now c.start.new.self (IsBeginning c.args.engine.now.history c.args.moment) e (seen_from c.args.place (g.R.Disk.view c.args.rack.now)) (seen_from c.args.place (g.R.Disk.view end.0))) c.start.result
    (λ e. refused_back c.args.place was.place was.rack.ghost_name v.place v.rack.ghost_name (g.R.Disk.view c.args.rack.now) (g.R.Disk.view was.rack.now) (g.R.Disk.view v.rack.now) (g.R.Disk.view end.0) lent c.args.engine.now c.start.new.self (IsBeginning c.args.engine.now.history c.args.moment) e) c.start.ensures.refused
