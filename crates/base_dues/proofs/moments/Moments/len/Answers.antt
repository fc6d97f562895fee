use Rattle.std.proofs.Common.{List, ℕ, Option, length, ap, arith}
use Rattle.base_dues.proofs.MomentLemmas.{length-moments}
use Rattle.base_dues.proofs.moments.Moments.len.Goals as goal

pub returns : goal.returns
returns c =
    omega (arith, c.len.ensures, length-moments c.self.inside.there.items c.self.inside.times.items c.self.invariant, ap (λ (l : List (Option ℕ)). length l) c.self.view_is)
