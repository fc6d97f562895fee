-- Promise: What is counted of a text and of its data: colons outside strings, members, numbers.
use Rattle.std.specs.Prelude.{◌≡◌, ◌-◌, length, Result, Ok, Err, ℕ, suc, Option, Some, None, option_map, ◌+◌, ◌==◌, List, [], ◌∷◌, ◌++◌, Bool, false, nat_le, negsuc, pos, if◌then◌else◌}
use Rattle.serde_json.specs.Data.{Num, unsigned, negative, float, Data, null, boolean, number, string, array, object, Items, no_items, item, Members, no_members, member}

-- where the next byte of a text stands: outside strings, in one, or in one behind a backslash
pub data Position : Type 0 where
  Outside : Position
  Inside : Position
  Escaped : Position

-- Where the byte after this one stands. A string begins at a quotation mark outside a string. In it a backslash
-- takes the next byte along, and the next quotation mark ends it.
abbrev pub next_position : Position → ℕ → Position
next_position Outside b = if b == 34 then Inside else Outside
next_position Inside b = if b == 34 then Outside else (if b == 92 then Escaped else Inside)
next_position Escaped b = Inside

-- 1 for a colon outside strings
abbrev pub colon_at : Position → ℕ → ℕ
colon_at Outside b = if b == 58 then 1 else 0
colon_at Inside b = 0
colon_at Escaped b = 0

abbrev pub colons_from : Position → List ℕ → ℕ
colons_from position [] = 0
colons_from position (b ∷ bs) = colon_at position b + colons_from (next_position position b) bs

-- the colons outside strings
abbrev pub colons : List ℕ → ℕ
colons bytes = colons_from Outside bytes

-- the members of all objects
abbrev mutual
  pub members : Data → ℕ
  members null = 0
  members (boolean b) = 0
  members (number n) = 0
  members (string s) = 0
  members (array ds) = members_of_items ds
  members (object ms) = members_of_pairs ms

  pub members_of_items : Items → ℕ
  members_of_items no_items = 0
  members_of_items (item d ds) = members d + members_of_items ds

  pub members_of_pairs : Members → ℕ
  members_of_pairs no_members = 0
  members_of_pairs (member k d ms) = 1 + (members d + members_of_pairs ms)

-- the numbers, depth first, members in the order of their names
abbrev mutual
  pub numbers : Data → List Num
  numbers null = []
  numbers (boolean b) = []
  numbers (number n) = n ∷ []
  numbers (string s) = []
  numbers (array ds) = numbers_of_items ds
  numbers (object ms) = numbers_of_pairs ms

  pub numbers_of_items : Items → List Num
  numbers_of_items no_items = []
  numbers_of_items (item d ds) = numbers d ++ numbers_of_items ds

  pub numbers_of_pairs : Members → List Num
  numbers_of_pairs no_members = []
  numbers_of_pairs (member k d ms) = numbers d ++ numbers_of_pairs ms

-- A whole number of at most 2 ^ 53 - 1 on either side. A fraction, an exponent and `-0` are read as floats.
abbrev pub is_whole : Num → Bool
is_whole (unsigned n) = nat_le n 9007199254740991
is_whole (negative (pos n)) = false
is_whole (negative (negsuc n)) = nat_le (n + 1) 9007199254740991
is_whole (float x) = false

-- the index of the first number that is not whole
abbrev pub first_broken : List Num → Option ℕ
first_broken [] = None
first_broken (n ∷ ns) = if is_whole n then option_map suc (first_broken ns) else Some 0

-- one is taken from the count for each number, or for each before the first that is not whole
abbrev pub TakesWhole : Result ℕ ℕ → ℕ → List Num → Type 0
TakesWhole (Ok left) count ns = (first_broken ns ≡ None) × (left ≡ count - length ns)
TakesWhole (Err left) count ns = (i : ℕ) × (first_broken ns ≡ Some i) × (left ≡ count - i)
