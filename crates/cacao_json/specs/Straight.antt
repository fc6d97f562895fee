-- Promise: What reading tokens straight into a tree takes and gives, for private clauses.
use Rattle.std.specs.Prelude.{◌≡◌, ℕ, ℤ, ◌+◌, List, [], ◌∷◌, Some, Bool, true, map}
use Rattle.json.specs.Token.{Token}
use Rattle.fast_float.specs.Text.{Parts}
use Rattle.serde_json.specs.Data.{Members}
use Rattle.serde_json.specs.Find.{of_integer}
use Rattle.serde_json.specs.Read.{number_of, number_from}
use Rattle.cacao_json_counts.specs.Counts.{is_whole}
use Rattle.cacao_json.specs.declared.tree.Tree.{Tree}
use Rattle.cacao_json.specs.Tree.{data_of, members_of}

-- the keys among the tokens
abbrev pub keys_in : List Token → ℕ
keys_in [] = 0
keys_in (Token.begin_object ∷ ts) = keys_in ts
keys_in (Token.end_object ∷ ts) = keys_in ts
keys_in (Token.begin_array ∷ ts) = keys_in ts
keys_in (Token.end_array ∷ ts) = keys_in ts
keys_in (Token.key s ∷ ts) = 1 + keys_in ts
keys_in (Token.string s ∷ ts) = keys_in ts
keys_in (Token.number s ∷ ts) = keys_in ts
keys_in (Token.boolean b ∷ ts) = keys_in ts
keys_in (Token.null ∷ ts) = keys_in ts
keys_in (Token.bad ∷ ts) = keys_in ts

-- the number's text writes the whole number z
abbrev pub WritesWhole : List ℕ → ℤ → Type 0
WritesWhole text z = (number_of text ≡ Some (of_integer z)) × (is_whole (of_integer z) ≡ true)

-- so do the parts of a numeral, behind a minus or not
abbrev pub PartsWriteWhole : Bool → Parts → ℤ → Type 0
PartsWriteWhole below p z = (number_from below p ≡ Some (of_integer z)) × (is_whole (of_integer z) ≡ true)

-- the members that the entries of a map stand for
abbrev pub entries_data : List (List ℕ × Tree) → Members
entries_data es = members_of (map (λ e. (e.0, data_of e.1)) es)
