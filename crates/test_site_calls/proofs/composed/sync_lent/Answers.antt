-- By the label it is the disk that was lent.
use Rattle.std.proofs.Common.{ap, sym, refl}
use Rattle.test_site_calls.proofs.LentBack.{lent_back}
use Rattle.test_site_calls.proofs.composed.sync_lent.Goals as goal

pub returns-clause-one : goal.returns-clause-one
returns-clause-one g c =
    let v = c.sync_first.new.disk in
    let end = c.one-1.given in
    lent_back _ v.ghost_name 0 _ (g.D.Disk.view c.args.one.now) (g.D.Disk.view c.args.one.now) (g.D.Disk.view v.now) (g.D.Disk.view end.0) refl (λ same. ap g.D.Disk.view (end.1 (sym same))) c.sync_first.ensures.only
