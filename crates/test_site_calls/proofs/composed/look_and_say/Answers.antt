use Rattle.std.proofs.Common.{◌+◌, arith}
use Rattle.cacao_site.proofs.Beats.{since-start, each-other, each-keeps}
use Rattle.test_site_calls.proofs.composed.look_and_say.Goals as goal

pub returns : goal.returns
returns g c =
    each-keeps (each-other (since-start (g.S.Disk.view c.args.site.now).disk (c.args.file + 1)) c.length.ensures.call (λ same. absurd (omega (arith, same))))
    c.say.ensures.only.disk
