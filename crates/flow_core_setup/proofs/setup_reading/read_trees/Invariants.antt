use Rattle.std.proofs.Common.{map, take}
use Rattle.cacao_json.specs.Tree.{data_of}
use Rattle.flow_core_setup.specs.SetupReading.{AreTreesOf}
use Rattle.flow_core_setup.proofs.setup_reading.read_trees.Given as goal

abbrev pub invariant-loop-n : goal.invariant-loop-n
invariant-loop-n l = AreTreesOf (take l.n l.fn.texts) (map data_of l.trees.items)
