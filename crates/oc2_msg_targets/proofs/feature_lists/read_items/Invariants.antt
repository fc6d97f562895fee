use Rattle.oc2_msg_targets.proofs.FeatureLemmas.{ReadSoFar}
use Rattle.oc2_msg_targets.proofs.feature_lists.read_items.Given as goal

abbrev pub invariant-loop-tree : goal.invariant-loop-tree
invariant-loop-tree l = ReadSoFar l.items l.tree-index l.list
