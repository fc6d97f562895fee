use Rattle.std.proofs.Common.{arith}
use Rattle.cacao_site_memory.proofs.Held.{due-below}
use Rattle.cacao_site_memory.proofs.link.add_due.Goals as goal

pub push_back_reserved-requires : goal.push_back_reserved-requires
push_back_reserved-requires c = omega (arith, due-below c.args.now c.loop-k.k c.args.held.now (omega arith))
