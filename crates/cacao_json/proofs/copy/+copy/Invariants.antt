use Rattle.cacao_json.specs.Size.{size, items_size, members_size}
use Rattle.cacao_json.specs.Tree.{data_of, pair_data}
use Rattle.cacao_json.proofs.Copies.{IsCopied}
use Rattle.cacao_json.proofs.copy.+copy.Given as goal

abbrev pub invariant-copy_items-loop-tree : goal.invariant-copy_items-loop-tree
invariant-copy_items-loop-tree l = IsCopied data_of l.trees l.copies.items l.tree-index

abbrev pub invariant-copy_pairs-loop-pair : goal.invariant-copy_pairs-loop-pair
invariant-copy_pairs-loop-pair l = IsCopied pair_data l.members l.copies.items l.pair-index

abbrev pub decreases-copy_tree : goal.decreases-copy_tree
decreases-copy_tree l = size (data_of l.tree.now)

abbrev pub decreases-copy_items : goal.decreases-copy_items
decreases-copy_items l = items_size l.items.now

abbrev pub decreases-copy_pairs : goal.decreases-copy_pairs
decreases-copy_pairs l = members_size l.pairs.now
