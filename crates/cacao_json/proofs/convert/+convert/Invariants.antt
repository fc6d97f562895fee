use Rattle.std.proofs.Common.{◌≡◌, List, ◌++◌, map, length}
use Rattle.std.specs.Vec.Iter.{into_iter_items, into_iter_len}
use Rattle.serde_json.specs.View.{view, items_view, members_view}
use Rattle.serde_json.specs.declared.value.Value.{Value}
use Rattle.serde_json.proofs.Views.{Entry}
use Rattle.cacao_json.specs.Tree.{data_of, pair_data}
use Rattle.cacao_json.proofs.Trees.{entry_data}
use Rattle.cacao_json.specs.Size.{size, items_size, members_size}
use Rattle.cacao_json.proofs.convert.+convert.Given as goal

abbrev pub invariant-list_of-loop-item : goal.invariant-list_of-loop-item
invariant-list_of-loop-item l =
    (done : List Value) × (l.fn.items.items ≡ done ++ into_iter_items l.item-iterator) × (map data_of l.trees.items ≡ map view done) × (into_iter_len l.item-iterator ≡ length (into_iter_items l.item-iterator))

abbrev pub invariant-pairs_of-loop-name : goal.invariant-pairs_of-loop-name
invariant-pairs_of-loop-name l =
    (done : List Entry) × (l.fn.members.entries ≡ done ++ l.name-iterator) × (map pair_data l.pairs.items ≡ map entry_data done)

abbrev pub decreases-tree_of : goal.decreases-tree_of
decreases-tree_of l = size (view l.value)

abbrev pub decreases-list_of : goal.decreases-list_of
decreases-list_of l = items_size (items_view l.items.items)

abbrev pub decreases-pairs_of : goal.decreases-pairs_of
decreases-pairs_of l = members_size (members_view l.members.entries)
