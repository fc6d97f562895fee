use Rattle.std.proofs.Common.{◌≡◌, ◌+◌, ◌*◌, ◌++◌, drop, map}
use Rattle.std.specs.Prelude.{flat_map}
use Rattle.cacao_json.specs.Tree.{data_of, items_of}
use Rattle.cacao_json.specs.Size.{size, items_size, members_size}
use Rattle.cacao_text.specs.Arranged.{pairs_data, tree_tokens, pair_tokens, place_tokens}
use Rattle.cacao_text.proofs.write.+write.Given as goal

abbrev pub invariant-write_items-loop-tree : goal.invariant-write_items-loop-tree
invariant-write_items-loop-tree l =
    (l.writer.before ≡ l.initial.writer.before) × (l.writer.tokens ++ flat_map tree_tokens (drop l.tree-index l.items) ≡ l.initial.writer.tokens ++ flat_map tree_tokens l.items)

abbrev pub invariant-write_all-loop-pair : goal.invariant-write_all-loop-pair
invariant-write_all-loop-pair l =
    (l.writer.before ≡ l.initial.writer.before) × (l.writer.tokens ++ flat_map pair_tokens (drop l.pair-index l.pairs) ≡ l.initial.writer.tokens ++ flat_map pair_tokens l.pairs)

abbrev pub invariant-write_places-loop-place : goal.invariant-write_places-loop-place
invariant-write_places-loop-place l =
    (l.writer.before ≡ l.initial.writer.before)
    × (l.writer.tokens ++ flat_map (place_tokens l.pairs) (drop l.place-index l.order) ≡ l.initial.writer.tokens ++ flat_map (place_tokens l.pairs) l.order)

abbrev pub decreases-write_tree : goal.decreases-write_tree
decreases-write_tree l = 4 * size (data_of l.tree.now)

abbrev pub decreases-write_items : goal.decreases-write_items
decreases-write_items l = 4 * items_size (items_of (map data_of l.items.now))

abbrev pub decreases-write_pairs : goal.decreases-write_pairs
decreases-write_pairs l = 4 * members_size (pairs_data l.pairs.now) + 2

abbrev pub decreases-write_members : goal.decreases-write_members
decreases-write_members l = 4 * members_size (pairs_data l.pairs.now) + 1

abbrev pub decreases-write_all : goal.decreases-write_all
decreases-write_all l = 4 * members_size (pairs_data l.pairs.now)

abbrev pub decreases-write_places : goal.decreases-write_places
decreases-write_places l = 4 * members_size (pairs_data l.pairs.now)

abbrev pub decreases-write_pair : goal.decreases-write_pair
decreases-write_pair l = 4 * size (data_of l.pair.now.tree) + 1
