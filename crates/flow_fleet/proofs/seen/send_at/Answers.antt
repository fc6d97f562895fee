-- By the label it is the same rack, seen from the same place.
use Rattle.std.proofs.Common.{ap, sym, ◌∙◌}
use Rattle.flow_engine.specs.EngineCalls.{Sends}
use Rattle.cacao_site.specs.RunViews.{seen_from as lent_from}
use Rattle.flow_fleet_laws.specs.Views.{seen_from}
use Rattle.flow_fleet.proofs.Unnamed.{IsLent, err_on, ok_map, rack_same, ready_lent, ready_send, sends_back}
use Rattle.flow_fleet.proofs.seen.send_at.Goals as goal

pub send-requires-clause-ready : goal.send-requires-clause-ready
send-requires-clause-ready g c =
    let was = c.new-view.result in
    ready_lent c.args.engine.now.history c.args.place was.place was.rack.ghost_name (g.R.Disk.view c.args.rack.now) (g.R.Disk.view was.rack.now) c.new-view.ensures.place (ap g.R.Disk.view c.new-view.ensures.rack) c.requires.ready

pub returns-clause-ready : goal.returns-clause-ready
returns-clause-ready g c =
    let v = c.send.new.site in
    let was = c.new-view.result in
    let end = c.rack-1.given in
    let lent : IsLent c.args.place was.place was.rack.ghost_name v.place v.rack.ghost_name (g.R.Disk.view c.args.rack.now) (g.R.Disk.view was.rack.now) (g.R.Disk.view v.rack.now) (g.R.Disk.view end.0) = record {
      is = c.new-view.ensures.place;
      was = ap g.R.Disk.view c.new-view.ensures.rack;
      end = λ same. ap g.R.Disk.view (end.1 (sym c.new-view.ensures.same_reference ∙ sym same));
    } in
    ready_send c.args.place was.place was.rack.ghost_name v.place v.rack.ghost_name (g.R.Disk.view c.args.rack.now) (g.R.Disk.view was.rack.now) (g.R.Disk.view v.rack.now) (g.R.Disk.view end.0) lent c.args.engine.now c.send.new.self c.args.issue c.args.moment c.send.result c.send.ensures.ok
    (err_on _ _ c.send.result (λ e. ap (λ s. lent_from s.place s.rack.ghost_name (g.R.Disk.view s.rack.now)) e.1) c.send.ensures.stays) c.send.ensures.ready

pub returns-clause-ok : goal.returns-clause-ok
returns-clause-ok g c =
    let v = c.send.new.site in
    let was = c.new-view.result in
    let end = c.rack-1.given in
    let lent : IsLent c.args.place was.place was.rack.ghost_name v.place v.rack.ghost_name (g.R.Disk.view c.args.rack.now) (g.R.Disk.view was.rack.now) (g.R.Disk.view v.rack.now) (g.R.Disk.view end.0) = record {
      is = c.new-view.ensures.place;
      was = ap g.R.Disk.view c.new-view.ensures.rack;
      end = λ same. ap g.R.Disk.view (end.1 (sym c.new-view.ensures.same_reference ∙ sym same));
    } in
    ok_map (Sends c.args.engine.now c.send.new.self c.args.issue c.args.moment (lent_from was.place was.rack.ghost_name (g.R.Disk.view was.rack.now)) (lent_from v.place v.rack.ghost_name (g.R.Disk.view v.rack.now))) (Sends c.args.engine.now c.send.new.self c.args.issue c.args.moment (seen_from c.args.place (g.R.Disk.view c.args.rack.now)) (seen_from c.args.place (g.R.Disk.view end.0))) c.send.result
    (sends_back c.args.place was.place was.rack.ghost_name v.place v.rack.ghost_name (g.R.Disk.view c.args.rack.now) (g.R.Disk.view was.rack.now) (g.R.Disk.view v.rack.now) (g.R.Disk.view end.0) lent c.args.engine.now c.send.new.self c.args.issue c.args.moment) c.send.ensures.ok

pub returns-clause-stays : goal.returns-clause-stays
returns-clause-stays g c =
    let v = c.send.new.site in
    let was = c.new-view.result in
    let end = c.rack-1.given in
    let lent : IsLent c.args.place was.place was.rack.ghost_name v.place v.rack.ghost_name (g.R.Disk.view c.args.rack.now) (g.R.Disk.view was.rack.now) (g.R.Disk.view v.rack.now) (g.R.Disk.view end.0) = record {
      is = c.new-view.ensures.place;
      was = ap g.R.Disk.view c.new-view.ensures.rack;
      end = λ same. ap g.R.Disk.view (end.1 (sym c.new-view.ensures.same_reference ∙ sym same));
    } in
    err_on _ _ c.send.result (λ e. (e.0, rack_same c.args.place was.place was.rack.ghost_name v.place v.rack.ghost_name (g.R.Disk.view c.args.rack.now) (g.R.Disk.view was.rack.now) (g.R.Disk.view v.rack.now) (g.R.Disk.view end.0) lent (ap (λ s. lent_from s.place s.rack.ghost_name (g.R.Disk.view s.rack.now)) e.1) (ap (λ s. g.R.Disk.view s.rack.now) e.1))) c.send.ensures.stays
