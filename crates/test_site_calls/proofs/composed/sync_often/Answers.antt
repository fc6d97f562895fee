use Rattle.cacao_site.proofs.Beats.{since-start, each-same, rest-refl, rest-trans}
use Rattle.test_site_calls.proofs.composed.sync_often.Goals as goal

pub loop-init : goal.loop-init
loop-init g c = (since-start (g.D.Disk.view c.args.disk.now).disk c.args.file, rest-refl (g.D.Disk.view c.args.disk.now))

pub loop-preserved : goal.loop-preserved
loop-preserved g c = (each-same c.loop.invariant.0 c.sync.ensures.call c.sync.ensures.images, rest-trans c.loop.invariant.1 c.sync.ensures.rest)
