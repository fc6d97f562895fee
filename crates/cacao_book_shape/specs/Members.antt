-- Promise: What an object has, and what a list has.
use Rattle.std.specs.Prelude.{◌≡◌, ℕ, ◌≤◌, Bool, false, List, [], ◌∷◌, length, map, fold, All, Option, IsSome, is_some, IfSome, IsSomeAnd, option_and_then, unwrap_or, ℤ, pos, nat_abs}
use Rattle.std.specs.Ordering.{nat_cmp, match_ordering}
use Rattle.std.specs.Option.{option_map_or}
use Rattle.std.specs.Str.{bytes_eq}
use Rattle.std.specs.Cmp.Lexicographic.{slice_cmp}
use Rattle.serde_json.specs.Data.{Data, Items, no_items, item, Members, no_members, member}
use Rattle.serde_json.specs.Find.{get, as_str, as_bool, as_number, as_integer, as_array, as_object}

-- The member is there and its value fits.
abbrev pub Has : List ℕ → (Data → Type 0) → Data → Type 0
Has name Fits d = IsSomeAnd (get name d) Fits

-- The member is absent, or its value fits. A `null` is there.
abbrev pub MayHave : List ℕ → (Data → Type 0) → Data → Type 0
MayHave name Fits d = IfSome (get name d) Fits

-- whether the member is there
abbrev pub has : List ℕ → Data → Bool
has name d = is_some (get name d)

-- whether the member is there and is this text
abbrev pub has_text : List ℕ → List ℕ → Data → Bool
has_text name text d = option_map_or (λ found. bytes_eq found text) (option_and_then as_str (get name d)) false

-- a text, and a text that fits
abbrev pub IsText : Data → Type 0
IsText d = IsSome (as_str d)

abbrev pub TextFits : (List ℕ → Type 0) → Data → Type 0
TextFits Fits d = IsSomeAnd (as_str d) Fits

-- a text of at most so many bytes
abbrev pub IsShort : ℕ → List ℕ → Type 0
IsShort most text = length text ≤ most

abbrev pub IsFlag : Data → Type 0
IsFlag d = IsSome (as_bool d)

abbrev pub whole : Data → Option ℤ
whole d = option_and_then as_integer (as_number d)

-- a whole number from 0 to this one
abbrev pub IsUpTo : ℕ → Data → Type 0
IsUpTo most d = IsSomeAnd (whole d) (λ z. (n : ℕ) × (z ≡ pos n) × (n ≤ most))

-- the items of a list, and the members of an object, each with its name
abbrev pub items_in : Items → List Data
items_in no_items = []
items_in (item d ds) = d ∷ items_in ds

abbrev pub members_in : Members → List (List ℕ × Data)
members_in no_members = []
members_in (member name d ms) = (name, d) ∷ members_in ms

-- a list of so many items, each of which fits
abbrev pub ListOf : ℕ → ℕ → (Data → Type 0) → Data → Type 0
ListOf least most Fits d =
    IsSomeAnd (as_array d) (λ ds. (least ≤ length (items_in ds)) × (length (items_in ds) ≤ most) × All Fits (items_in ds))

-- each item fits; a value that is no list has none
abbrev pub EachItem : (Data → Type 0) → Data → Type 0
EachItem Fits d = IfSome (as_array d) (λ ds. All Fits (items_in ds))

-- an object of so many members, each of which fits
abbrev pub ObjectOf : ℕ → ℕ → (List ℕ → Data → Type 0) → Data → Type 0
ObjectOf least most Fits d =
    IsSomeAnd (as_object d) (λ ms.
    (least ≤ length (members_in ms)) × (length (members_in ms) ≤ most) × All (λ m. Fits m.0 m.1) (members_in ms))

-- an object of any size, each of whose members fits
abbrev pub ObjectWith : (List ℕ → Data → Type 0) → Data → Type 0
ObjectWith Fits d = IsSomeAnd (as_object d) (λ ms. All (λ m. Fits m.0 m.1) (members_in ms))

abbrev pub IsObject : Data → Type 0
IsObject d = IsSome (as_object d)

-- One more member in its place by name. Of two with one name the first stands.
abbrev pub with_member : List (List ℕ × Data) → List ℕ × Data → List (List ℕ × Data)
with_member [] new = new ∷ []
with_member (m ∷ ms) new = match_ordering (slice_cmp nat_cmp new.0 m.0) (new ∷ m ∷ ms) (m ∷ ms) (m ∷ with_member ms new)

-- members in the order of the bytes of their names
abbrev pub in_order : List (List ℕ × Data) → List (List ℕ × Data)
in_order ms = fold with_member [] ms

-- the members of the object under a name, in order; none where there is no object
abbrev pub members_at : List ℕ → Data → List (List ℕ × Data)
members_at name d = option_map_or (λ ms. in_order (members_in ms)) (option_and_then as_object (get name d)) []

-- ---- members of one kind

-- the text under a name
abbrev pub maybe_text : List ℕ → Data → Option (List ℕ)
maybe_text name d = option_and_then as_str (get name d)

abbrev pub some_text : List ℕ → Data → List ℕ
some_text name d = unwrap_or (maybe_text name d) []

-- the items of the list under a name
abbrev pub items_at : List ℕ → Data → List Data
items_at name d = option_map_or items_in (option_and_then as_array (get name d)) []

abbrev pub text_of : Data → List ℕ
text_of d = unwrap_or (as_str d) []

abbrev pub texts_at : List ℕ → Data → List (List ℕ)
texts_at name d = map text_of (items_at name d)

-- the whole number under a name, and another where there is none
abbrev pub number_at : List ℕ → ℕ → Data → ℕ
number_at name absent d = option_map_or nat_abs (option_and_then whole (get name d)) absent

abbrev pub flag_at : List ℕ → Data → Bool
flag_at name d = unwrap_or (option_and_then as_bool (get name d)) false
