use Rattle.std.proofs.Common.{subst, IsTrue}
use Rattle.cacao_site.proofs.Beats.{each-trans, each-weaken, each-now}
use Rattle.test_site_calls.proofs.composed.look_and_say_twice.Goals as goal

pub returns : goal.returns
returns g c =
    each-trans c.look_and_say.ensures
    (each-weaken c.look_and_say-2.ensures (λ told image left. each-now c.look_and_say.ensures (subst IsTrue c.look_and_say.ensures.goes_on.told told) image left))
