-- By the label it is the same rack, seen from the same place.
use Rattle.std.proofs.Common.{ap, sym, ◌∙◌}
use Rattle.cacao_site.specs.Seen.{came_back}
use Rattle.test_site_calls.proofs.composed.sync_seen.Goals as goal

pub returns : goal.returns
returns g c =
    let v = c.sync_first.new.disk in
    let was = c.new-view.result in
    let end = c.rack-1.given in
    came_back c.args.place was.place was.rack.ghost_name v.place v.rack.ghost_name (g.R.Disk.view c.args.rack.now) (g.R.Disk.view was.rack.now) (g.R.Disk.view v.rack.now) (g.R.Disk.view end.0)
    c.new-view.ensures.place (ap g.R.Disk.view c.new-view.ensures.rack) (λ same. ap g.R.Disk.view (end.1 (sym c.new-view.ensures.same_reference ∙ sym same))) c.sync_first.ensures.only
