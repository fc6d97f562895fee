use Rattle.base_dues.proofs.MomentLemmas.{pushed}
use Rattle.base_dues.proofs.moments.Moments.push_none.Goals as goal

pub returns-clause-ok : goal.returns-clause-ok
returns-clause-ok c =
    pushed c.self.inside.there.items c.push.new.self.items c.self.inside.times.items c.reserve.new.self.items c.push_reserved.new.self.items c.args.self.now
    c.self.invariant c.in_ok-push.ensures.items c.in_ok-reserve.ensures.items c.push_reserved.ensures.items c.self.view_is
