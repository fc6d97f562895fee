use Rattle.base_graphs.proofs.NestLemmas.{tells_nothing}
use Rattle.base_graphs.proofs.nesting.nests_of.Goals as goal

pub returns-then-not-all_hold : goal.returns-then-not-all_hold
returns-then-not-all_hold c = tells_nothing c.args.free.now c.args.guarded.now c.args.first.now c.new.result c.new.ensures
