use Rattle.std.proofs.Common.{arith}
use Rattle.base_dues.proofs.LeastLemmas.{IsLeast-none, IsLeast-more}
use Rattle.base_dues.proofs.least.least_in.Goals as goal

pub loop-number-init : goal.loop-number-init
loop-number-init c = IsLeast-none c.args.moments.now c.args.from c.args.from (omega arith)

pub loop-number-preserved : goal.loop-number-preserved
loop-number-preserved c =
    rw (c.sooner-least.ensures, c.get.ensures) (IsLeast-more c.args.moments.now c.args.from c.loop-number.number c.loop-number.least c.loop-number.auto.number c.loop-number.invariant)
