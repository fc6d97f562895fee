-- Promise: The parts of items and of members are smaller than they: what their models owe.
use Rattle.std.specs.Prelude.{◌≤◌, List, [], ◌∷◌, map, max}
use Rattle.std.proofs.Common.{arith}
use denote.Param.Weighed.{most}
use Rattle.cacao_json.specs.declared.tree.Tree.{Tree}
use Rattle.cacao_json.specs.declared.tree.Tree.TheVariants as tree
use Rattle.cacao_json.specs.declared.tree.Pair.{Pair}
use Rattle.cacao_json.specs.declared.tree.Items.TheDeep.{deep-Tree, deep-Pair}
use Rattle.cacao_json.specs.Tree.{data_of, items_of, members_of, pair_data}
use Rattle.cacao_json.specs.Size.{size, items_size, members_size}

tree_falls : (t : Tree) → deep-Tree t ≤ size (data_of t)
tree_falls tree.Null = omega arith
tree_falls (tree.Flag b) = omega arith
tree_falls (tree.Whole z) = omega arith
tree_falls (tree.Text s) = omega arith
tree_falls (tree.List ds) = omega arith
tree_falls (tree.Members ms) = omega arith

pub items_fall : (ts : List Tree) → max (most deep-Tree ts) 0 ≤ items_size (items_of (map data_of ts))
items_fall [] = omega arith
items_fall (t ∷ ts) = omega (arith, tree_falls t, items_fall ts)

pub pairs_fall : (ps : List Pair) → max (most deep-Pair ps) 0 ≤ members_size (members_of (map pair_data ps))
pairs_fall [] = omega arith
pairs_fall (p ∷ ps) = omega (arith, tree_falls p.tree, pairs_fall ps)
