-- Promise: Parts of trees, as commands and responses have them.
use Rattle.std.specs.Prelude.{ℕ, ℤ, pos, negsuc, List, [], ◌∷◌, Bool, true, false, ◌&&◌, nat_le, Option, Some, None, option_map, option_and_then, is_some, if◌then◌else◌}
use Rattle.std.specs.Option.{option_map_or}
use Rattle.std.specs.List.{list_all, list_any}
use Rattle.std.specs.Str.{bytes_eq}
use Rattle.serde_json.specs.Data.{unsigned, Data, null, boolean, number, string, array, object, Items, no_items, item, Members, no_members, member}
use Rattle.serde_json.specs.Find.{as_number, as_integer, as_object}

infixl 10 ◌>>=◌
abbrev pub ◌>>=◌ : {A B : Type 0} → Option A → (A → Option B) → Option B
o >>= f = option_and_then f o

-- the value, where the demand holds
abbrev pub provided : {A : Type 0} → Bool → Option A → Option A
provided true value = value
provided false value = None

-- a part that may be absent, but must be readable where it stands
abbrev pub optional : {A : Type 0} → (Data → Option A) → Option Data → Option (Option A)
optional read None = Some None
optional read (Some d) = option_map Some (read d)

abbrev pub is_object : Data → Bool
is_object d = is_some (as_object d)

-- absent, or as the test says
abbrev pub is_absent_or : (Data → Bool) → Option Data → Bool
is_absent_or test part = option_map_or test part true

-- the value that a word stands for
abbrev pub named : {A : Type 0} → List (List ℕ × A) → List ℕ → Option A
named [] text = None
named (row ∷ rows) text = if bytes_eq text row.0 then Some row.1 else named rows text

abbrev pub names_of : Members → List (List ℕ)
names_of no_members = []
names_of (member name d ms) = name ∷ names_of ms

-- each name is one of these
abbrev pub are_among : List (List ℕ) → List (List ℕ) → Bool
are_among allowed names = list_all (λ name. list_any (λ word. bytes_eq name word) allowed) names

-- an object with no other members than these
abbrev pub has_only : List (List ℕ) → Data → Bool
has_only allowed null = false
has_only allowed (boolean b) = false
has_only allowed (number n) = false
has_only allowed (string s) = false
has_only allowed (array ds) = false
has_only allowed (object ms) = are_among allowed (names_of ms)

abbrev pub only_member : Members → Option (List ℕ × Data)
only_member no_members = None
only_member (member name d no_members) = Some (name, d)
only_member (member name d (member other e ms)) = None

-- the name and the value of the one member of an object
abbrev pub single : Data → Option (List ℕ × Data)
single null = None
single (boolean b) = None
single (number n) = None
single (string s) = None
single (array ds) = None
single (object ms) = only_member ms

abbrev pub natural : ℤ → Option ℕ
natural (pos n) = Some n
natural (negsuc n) = None

abbrev pub between : ℕ → ℕ → ℕ → Option ℕ
between least most n = if nat_le least n && nat_le n most then Some n else None

-- a whole number in this range
abbrev pub whole : ℕ → ℕ → Data → Option ℕ
whole least most d = do
  z ← option_and_then as_integer (as_number d)
  n ← natural z
  between least most n

-- the object with those of the parts that are there
abbrev pub present : List (List ℕ × Option Data) → Members
present [] = no_members
present ((name, None) ∷ parts) = present parts
present ((name, Some d) ∷ parts) = member name d (present parts)

abbrev pub object_of : List (List ℕ × Option Data) → Data
object_of parts = object (present parts)

-- an object with one member
abbrev pub one_member : List ℕ → Data → Data
one_member name d = object (member name d no_members)

-- an object that has members
abbrev pub unless_empty : Members → Option Data
unless_empty no_members = None
unless_empty (member name d ms) = Some (object (member name d ms))

-- the object of those of the parts that are there, if there are any
abbrev pub part_of : List (List ℕ × Option Data) → Option Data
part_of parts = unless_empty (present parts)

-- a number, and a text, of a tree
abbrev pub whole_data : ℕ → Data
whole_data n = number (unsigned n)

-- a list of texts
abbrev pub texts : List (List ℕ) → Items
texts [] = no_items
texts (text ∷ rest) = item (string text) (texts rest)

-- a list of one text
abbrev pub one_text : List ℕ → Data
one_text text = array (texts (text ∷ []))
