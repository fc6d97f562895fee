-- By the label it is the same rack, seen from the same place.
use Rattle.std.proofs.Common.{ap, sym, ◌∙◌}
use Rattle.flow_world_parts.specs.Openings.{IsJournalOpen, RefusesJournal}
use Rattle.cacao_site.specs.RunViews.{seen_from as lent_from}
use Rattle.flow_fleet_laws.specs.Views.{seen_from}
use Rattle.flow_fleet.proofs.Unnamed.{IsLent, err_map, journal_back, journal_refused, ok_with}
use Rattle.flow_fleet.proofs.seen.open_at.Goals as goal

pub returns-clause-opens : goal.returns-clause-opens
returns-clause-opens g c =
    let v = c.open_journal.new.disk in
    let was = c.new-view.result in
    let end = c.rack-1.given in
    let lent : IsLent c.args.place was.place was.rack.ghost_name v.place v.rack.ghost_name (g.R.Disk.view c.args.rack.now) (g.R.Disk.view was.rack.now) (g.R.Disk.view v.rack.now) (g.R.Disk.view end.0) = record {
      is = c.new-view.ensures.place;
      was = ap g.R.Disk.view c.new-view.ensures.rack;
      end = λ same. ap g.R.Disk.view (end.1 (sym c.new-view.ensures.same_reference ∙ sym same));
    } in
    ok_with (λ x. IsJournalOpen c.args.setup c.args.run (lent_from was.place was.rack.ghost_name (g.R.Disk.view was.rack.now)) (lent_from v.place v.rack.ghost_name (g.R.Disk.view v.rack.now)) x) (λ x. IsJournalOpen c.args.setup c.args.run (seen_from c.args.place (g.R.Disk.view c.args.rack.now)) (seen_from c.args.place (g.R.Disk.view end.0)) x) c.open_journal.result
    (λ x. journal_back c.args.place was.place was.rack.ghost_name v.place v.rack.ghost_name (g.R.Disk.view c.args.rack.now) (g.R.Disk.view was.rack.now) (g.R.Disk.view v.rack.now) (g.R.Disk.view end.0) lent c.args.setup c.args.run x) c.open_journal.ensures.opens

pub returns-clause-refused : goal.returns-clause-refused
returns-clause-refused g c =
    let v = c.open_journal.new.disk in
    let was = c.new-view.result in
    let end = c.rack-1.given in
    let lent : IsLent c.args.place was.place was.rack.ghost_name v.place v.rack.ghost_name (g.R.Disk.view c.args.rack.now) (g.R.Disk.view was.rack.now) (g.R.Disk.view v.rack.now) (g.R.Disk.view end.0) = record {
      is = c.new-view.ensures.place;
      was = ap g.R.Disk.view c.new-view.ensures.rack;
      end = λ same. ap g.R.Disk.view (end.1 (sym c.new-view.ensures.same_reference ∙ sym same));
    } in
    err_map (λ e. RefusesJournal e c.args.setup c.args.run (lent_from was.place was.rack.ghost_name (g.R.Disk.view was.rack.now)) (lent_from v.place v.rack.ghost_name (g.R.Disk.view v.rack.now))) (λ e. RefusesJournal e c.args.setup c.args.run (seen_from c.args.place (g.R.Disk.view c.args.rack.now)) (seen_from c.args.place (g.R.Disk.view end.0))) c.open_journal.result
    (λ e. journal_refused c.args.place was.place was.rack.ghost_name v.place v.rack.ghost_name (g.R.Disk.view c.args.rack.now) (g.R.Disk.view was.rack.now) (g.R.Disk.view v.rack.now) (g.R.Disk.view end.0) lent e c.args.setup c.args.run) c.open_journal.ensures.refused
