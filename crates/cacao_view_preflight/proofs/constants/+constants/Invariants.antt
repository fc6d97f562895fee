use Rattle.cacao_json.specs.Size.{size, items_size, members_size}
use Rattle.cacao_json.specs.Tree.{data_of}
use Rattle.cacao_view_preflight.specs.Constants.{constant_in}
use Rattle.cacao_view_preflight.proofs.ConstantLemmas.{AreMade, MembersMade}
use Rattle.cacao_view_preflight.proofs.constants.+constants.Given as goal

abbrev pub invariant-constant_items-loop-tree : goal.invariant-constant_items-loop-tree
invariant-constant_items-loop-tree l = AreMade (constant_in l.own l.outer) l.trees l.made.items l.tree-index

abbrev pub invariant-constant_pairs-loop-pair : goal.invariant-constant_pairs-loop-pair
invariant-constant_pairs-loop-pair l = MembersMade (constant_in l.own l.outer) l.members l.made l.pair-index

abbrev pub decreases-with_constants : goal.decreases-with_constants
decreases-with_constants l = size (data_of l.tree.now)

abbrev pub decreases-constant_items : goal.decreases-constant_items
decreases-constant_items l = items_size l.items.now

abbrev pub decreases-constant_pairs : goal.decreases-constant_pairs
decreases-constant_pairs l = members_size l.pairs.now
