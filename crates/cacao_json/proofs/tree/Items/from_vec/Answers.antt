use Rattle.std.proofs.Common.{subst}
use Rattle.cacao_json.specs.Tree.{data_of}
use Rattle.cacao_json.specs.Profile.{IsSorted, AreSorted}
use Rattle.cacao_json.proofs.Trees.{data_items, sorted_none, sorted_step, sorted_all}
use Rattle.cacao_json.proofs.tree.Items.from_vec.Goals as goal

pub loop-tree-init : goal.loop-tree-init
loop-tree-init c = sorted_none c.deref-tree-items.result.now

pub loop-tree-preserved : goal.loop-tree-preserved
loop-tree-preserved c =
    sorted_step c.deref-tree-items.result.now c.loop-tree.tree-index c.tree-item.result c.loop-tree-test.true c.loop-tree.invariant (subst (λ t. IsSorted (data_of t)) c.tree-item.is c.tree_law.ensures)

pub invariant_of-result : goal.invariant_of-result
invariant_of-result c = subst (λ ts. AreSorted (data_items ts)) c.deref-tree-items.ensures.value (sorted_all c.deref-tree-items.result.now c.loop-tree.tree-index c.loop-tree-test.false c.loop-tree.invariant)
