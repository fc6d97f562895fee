use Rattle.base_graphs.proofs.NestLemmas.{tells_guards}
use Rattle.base_graphs.proofs.nesting.all_hold.Goals as goal

pub returns : goal.returns
returns c h =
    tells_guards c.args.free.now c.args.guarded.now c.args.first.now c.args.found.now c.args.nests.now
    (c.all_stand_free.ensures c.if-not-all_stand_free.false) (c.all_fit.ensures c.if-not-all_fit.false) (c.all_fit-2.ensures h)
