-- Promise: The data that a tree stands for.
use Rattle.std.specs.Prelude.{List, [], ◌∷◌, ℕ, map, if◌then◌else◌}
use Rattle.std.specs.Str.{bytes_eq}
use Rattle.serde_json.specs.Data.{Data, null, boolean, number, string, array, object, Items, no_items, item, Members, no_members, member}
use Rattle.serde_json.specs.Find.{of_integer}
use Rattle.cacao_json.specs.declared.tree.Tree.{Tree}
use Rattle.cacao_json.specs.declared.tree.Tree.TheVariants as tree
use Rattle.cacao_json.specs.declared.tree.Pair.{Pair}

abbrev pub items_of : List Data → Items
items_of [] = no_items
items_of (d ∷ ds) = item d (items_of ds)

abbrev pub members_of : List (List ℕ × Data) → Members
members_of [] = no_members
members_of (m ∷ ms) = member m.0 m.1 (members_of ms)

abbrev pub data_of : Tree → Data
data_of tree.Null = null
data_of (tree.Flag b) = boolean b
data_of (tree.Whole z) = number (of_integer z)
data_of (tree.Text s) = string s
data_of (tree.List ds) = array ds
data_of (tree.Members ms) = object ms

-- a member, as its name and its data
abbrev pub pair_data : Pair → List ℕ × Data
pair_data p = (p.name, data_of p.tree)

abbrev pub pairs_data : List Pair → Members
pairs_data ps = members_of (map pair_data ps)

-- the members but those with this name
abbrev pub without : List ℕ → Members → Members
without name no_members = no_members
without name (member k d ms) = if bytes_eq name k then without name ms else member k d (without name ms)

-- the items, and one more behind them
abbrev pub item_last : Items → Data → Items
item_last no_items d = item d no_items
item_last (item e ds) d = item e (item_last ds d)
