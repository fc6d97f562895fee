use Rattle.std.proofs.Common.{arith}
use Rattle.slpf_rules.proofs.Rising.{not_over}
use Rattle.slpf_rules.proofs.adding.number_for.Goals as goal

pub returns-else-greatest-clause-free : goal.returns-else-greatest-clause-free
returns-else-greatest-clause-free c =
    not_over _ c.args.rules.now (omega (arith, c.greatest-greatest.ensures))
