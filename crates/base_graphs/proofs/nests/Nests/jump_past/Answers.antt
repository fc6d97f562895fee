use Rattle.base_graphs.proofs.NestLemmas.{inside_both}
use Rattle.base_graphs.proofs.nests.Nests.jump_past.Goals as goal

pub returns : goal.returns
returns c = inside_both c.args.self.now c.in_ok-near.ensures c.in_ok-far.ensures
