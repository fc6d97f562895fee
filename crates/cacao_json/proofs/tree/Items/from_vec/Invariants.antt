use Rattle.std.proofs.Common.{take}
use Rattle.cacao_json.specs.Profile.{AreSorted}
use Rattle.cacao_json.proofs.Trees.{data_items}
use Rattle.cacao_json.proofs.tree.Items.from_vec.Given as goal

abbrev pub invariant-loop-tree : goal.invariant-loop-tree
invariant-loop-tree l = AreSorted (data_items (take l.tree-index l.tree-items))
