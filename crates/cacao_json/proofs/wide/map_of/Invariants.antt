use Rattle.std.proofs.Common.{◌≡◌, List, ◌++◌, length}
use Rattle.std.specs.Vec.Iter.{into_iter_items, into_iter_len}
use Rattle.cacao_json.specs.declared.tree.Pair.{Pair}
use Rattle.cacao_json.specs.Straight.{entries_data}
use Rattle.cacao_json.specs.Tree.{pairs_data}
use Rattle.cacao_json.proofs.wide.map_of.Given as goal

abbrev pub invariant-loop-pair : goal.invariant-loop-pair
invariant-loop-pair l =
    (done : List Pair) × (l.fn.pairs ≡ pairs_data (done ++ into_iter_items l.pair-iterator)) × (entries_data l.map.entries ≡ pairs_data done) × (into_iter_len l.pair-iterator ≡ length (into_iter_items l.pair-iterator))
