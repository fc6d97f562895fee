use Rattle.std.proofs.Common.{map}
use Rattle.cacao_json.specs.Tree.{data_of}
use Rattle.flow_core_setup.proofs.SetupReasons.{refused_at}
use Rattle.flow_core_setup.proofs.setup_reading.read_trees.Goals as goal

pub returns-in-Err-clause-err : goal.returns-in-Err-clause-err
returns-in-Err-clause-err c = refused_at c.args.texts.now c.loop-n.n c.index-texts-n.result (map data_of c.loop-n.trees.items) c.in-Err.refusal c.loop-n-test.true c.index-texts-n.is c.loop-n.invariant c.in-Err.ensures.err
