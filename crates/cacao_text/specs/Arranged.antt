-- Promise: How members are arranged, for private clauses.
use Rattle.std.specs.Prelude.{◌≡◌, ◌+◌, ◌&&◌, ℕ, List, [], ◌∷◌, ◌++◌, Bool, false, not, map, flat_map, option_map, unwrap_or, slice_get, codes, if◌then◌else◌}
use Rattle.std.specs.Str.{bytes_eq}
use Rattle.json.specs.Token.{Token, key}
use Rattle.json.specs.Tree.{json_tokens}
use Rattle.json.specs.Written.{Written}
use Rattle.serde_json.specs.Data.{Data, null, boolean, number, string, array, object, Items, no_items, item, Members, no_members, member}
use Rattle.serde_json.specs.Written.{outline}
use Rattle.cacao_json.specs.declared.tree.Tree.{Tree}
use Rattle.cacao_json.specs.declared.tree.Pair.{Pair}
use Rattle.cacao_json.specs.Tree.{data_of, items_of, pair_data, members_of}
use Rattle.cacao_text.specs.Canon.{comes_before, in_order}

-- the data with the members of each object in the order of their names' units
abbrev mutual
  pub arranged : Data → Data
  arranged null = null
  arranged (boolean b) = boolean b
  arranged (number n) = number n
  arranged (string s) = string s
  arranged (array ds) = array (arranged_items ds)
  arranged (object ms) = object (members_of (in_order (λ m. m.0) (arranged_pairs ms)))

  pub arranged_items : Items → Items
  arranged_items no_items = no_items
  arranged_items (item d ds) = item (arranged d) (arranged_items ds)

  pub arranged_pairs : Members → List (List ℕ × Data)
  arranged_pairs no_members = []
  arranged_pairs (member k d ms) = (k, arranged d) ∷ arranged_pairs ms

-- the tokens of a value
abbrev pub value_tokens : Data → List Token
value_tokens d = json_tokens (outline (arranged d))

-- these tokens were added
abbrev pub Adds : Written → Written → List Token → Type 0
Adds old new ts = (new.before ≡ old.before) × (new.tokens ≡ old.tokens ++ ts)

-- ---- pairs, and their places

abbrev pub names_in : List Pair → List (List ℕ)
names_in ps = map (λ p. (pair_data p).0) ps

-- what they stand for
abbrev pub items_data : List Tree → Data
items_data ts = array (items_of (map data_of ts))

abbrev pub pairs_data : List Pair → Members
pairs_data ps = members_of (map pair_data ps)

abbrev pub arranged_pair : Pair → List ℕ × Data
arranged_pair p = ((pair_data p).0, arranged (pair_data p).1)

-- the tokens of a member whose value is arranged
abbrev pub member_tokens : List ℕ × Data → List Token
member_tokens m = key m.0 ∷ json_tokens (outline m.1)

-- the tokens of an object's members, sorted
abbrev pub sorted_tokens : Members → List Token
sorted_tokens ms = flat_map member_tokens (in_order (λ m. m.0) (arranged_pairs ms))

-- what is written for an item, for a member, and for the member at a place
abbrev pub tree_tokens : Tree → List Token
tree_tokens t = value_tokens (data_of t)

abbrev pub pair_tokens : Pair → List Token
pair_tokens p = member_tokens (arranged_pair p)

-- the member at a place, arranged
abbrev pub pair_at : List Pair → ℕ → List ℕ × Data
pair_at ps i = unwrap_or (option_map arranged_pair (slice_get ps i)) ([], null)

abbrev pub place_tokens : List Pair → ℕ → List Token
place_tokens ps i = member_tokens (pair_at ps i)

abbrev pub name_at : List Pair → ℕ → List ℕ
name_at ps i = (pair_at ps i).0

-- whether a member stays
abbrev pub is_kept : Bool → List ℕ → Bool
is_kept unsigned name = not (unsigned && bytes_eq (codes "signatures") name)

-- the places of the members that stay, where the first is at i
abbrev pub kept_places : Bool → ℕ → List Pair → List ℕ
kept_places unsigned i [] = []
kept_places unsigned i (p ∷ ps) =
    if is_kept unsigned (pair_data p).0 then i ∷ kept_places unsigned (i + 1) ps else kept_places unsigned (i + 1) ps

-- none of the names comes before k
abbrev pub NoneBefore : List ℕ → List (List ℕ) → Type 0
NoneBefore k [] = Unit {0}
NoneBefore k (l ∷ ls) = (comes_before l k ≡ false) × NoneBefore k ls

-- no later name comes before an earlier one
abbrev pub AreInOrder : List (List ℕ) → Type 0
AreInOrder [] = Unit {0}
AreInOrder (k ∷ ks) = NoneBefore k ks × AreInOrder ks
