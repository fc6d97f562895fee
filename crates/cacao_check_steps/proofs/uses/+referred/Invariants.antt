use Rattle.std.proofs.Common.{◌≡◌, ◌+◌, ◌*◌, ◌++◌, drop, map}
use Rattle.std.specs.List.{flat_map}
use Rattle.cacao_json.specs.Tree.{data_of, pair_data, items_of, members_of}
use Rattle.cacao_json.specs.Size.{size, items_size, members_size}
use Rattle.cacao_json.specs.declared.tree.Tree.{Tree}
use Rattle.cacao_json.specs.declared.tree.Pair.{Pair}
use Rattle.cacao_check_steps.specs.Uses.{referred_in}
use Rattle.cacao_check_steps.proofs.uses.+referred.Given as goal

abbrev pub invariant-add_items-loop-tree : goal.invariant-add_items-loop-tree
invariant-add_items-loop-tree l =
    l.all.items ++ flat_map (λ (tree : Tree). referred_in (data_of tree)) (drop l.tree-index l.items) ≡ l.initial.all.items ++ flat_map (λ (tree : Tree). referred_in (data_of tree)) l.items

abbrev pub invariant-add_members-loop-pair : goal.invariant-add_members-loop-pair
invariant-add_members-loop-pair l =
    l.all.items ++ flat_map (λ (pair : Pair). referred_in (data_of pair.tree)) (drop l.pair-index l.pairs) ≡ l.initial.all.items ++ flat_map (λ (pair : Pair). referred_in (data_of pair.tree)) l.pairs

abbrev pub decreases-add_tree : goal.decreases-add_tree
decreases-add_tree l = 2 * size (data_of l.tree.now)

abbrev pub decreases-add_items : goal.decreases-add_items
decreases-add_items l = 2 * items_size (items_of (map data_of l.items.now)) + 1

abbrev pub decreases-add_members : goal.decreases-add_members
decreases-add_members l = 2 * members_size (members_of (map pair_data l.pairs.now)) + 1
