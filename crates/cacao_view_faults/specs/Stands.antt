-- Promise: Where the value that a pointer leads to stands in a text.
use Rattle.std.specs.Prelude.{◌≡◌, ◌⊎◌, ℕ, ◌+◌, ◌-◌, ◌≤◌, ◌==◌, ◌&&◌, ◌||◌, ◌++◌, [], ◌∷◌, Bool, true, false, not, nat_le, nat_lt, if◌then◌else◌, List, length, take, drop, codes, slice_get, slice_range, Option, Some, None, option_and_then, is_some, IsSome, unwrap_or}
use Rattle.serde_json.specs.Data.{Data}
use Rattle.serde_json.specs.Find.{as_bool, pointer}
use Rattle.cacao_json.specs.Reading.{reading}
use Rattle.cacao_vars.specs.Names.{is_name_character}

-- what a pointer (RFC 6901) leads to in the value that a text is (RFC 8259)
abbrev pub leads : List ℕ → List ℕ → Option Data
leads text path = option_and_then (pointer path) (reading text)

-- the byte at a place; 0 past the end
abbrev pub byte_at : List ℕ → ℕ → ℕ
byte_at text at = unwrap_or (slice_get text at) 0

-- white space of JSON
abbrev pub is_space : ℕ → Bool
is_space byte = (byte == 32) || (byte == 9) || (byte == 10) || (byte == 13)

-- the bytes from a place on and before another are JSON text, and begin with no white space
abbrev pub is_text_at : List ℕ → ℕ → ℕ → Bool
is_text_at text from end =
    if nat_lt from end && nat_le end (length text) then
    (if is_space (byte_at text from) then false else is_some (reading (slice_range text from end)))
    else false

-- the text with this word in place of the bytes from a place on and before another
abbrev pub in_place : List ℕ → List ℕ → ℕ → ℕ → List ℕ
in_place word text from end = (take from text ++ word) ++ drop end text

abbrev pub is_flag : Bool → Option Bool → Bool
is_flag flag None = false
is_flag flag (Some found) = if flag then found else not found

abbrev pub word_of : Bool → List ℕ
word_of true = codes "true"
word_of false = codes "false"

-- where the word for this flag stands there, the pointer leads to the flag
abbrev pub follows_flag : Bool → List ℕ → List ℕ → ℕ → ℕ → Bool
follows_flag flag text path from end = is_flag flag (option_and_then as_bool (leads (in_place (word_of flag) text from end) path))

-- the pointer leads to whatever stands there
abbrev pub follows : List ℕ → List ℕ → ℕ → ℕ → Bool
follows text path from end = if follows_flag true text path from end then follows_flag false text path from end else false

-- The value that the pointer leads to stands from a place on and before another: the bytes there are the text of a value, and it is this one
-- that the pointer leads to, since it leads to whatever stands in its place.
abbrev pub stands : List ℕ → List ℕ → ℕ → ℕ → Bool
stands text path from end =
    if is_some (leads text path) then (if is_text_at text from end then follows text path from end else false) else false

-- This word stands at a place, within the bytes from a place on and before another, and in no longer name: neither the byte before it nor that
-- behind it is of a name.
pub record WordStands (text : List ℕ) (from end at : ℕ) (word : List ℕ) : Type 0 where
  pub after : from ≤ at
  pub before : at + length word ≤ end
  pub is : slice_range text at (at + length word) ≡ word
  pub begins : is_name_character (byte_at text (at - 1)) ≡ false
  pub ends : is_name_character (byte_at text (at + length word)) ≡ false

-- the pointer leads to a value in the text, that of this pointer or a part of it; or this pointer leads to none, and there is no other
pub record LeadsOn (text base path : List ℕ) : Type 0 where
  pub part : List ℕ
  pub is : path ≡ base ++ part
  pub below : (part ≡ []) ⊎ ((more : List ℕ) × (part ≡ 47 ∷ more))
  pub leads_to : IsSome (leads text path) ⊎ ((path ≡ base) × (leads text base ≡ None))
