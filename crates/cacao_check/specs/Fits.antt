-- Promise: Whether a text may be the value of a variable of a kind (CACAO 2.0, section 10.18.1). Each kind takes the empty text.
use Rattle.std.specs.Prelude.{◌≡◌, ◌⊎◌, ℕ, ◌<◌, ◌≤◌, ◌%◌, ◌==◌, ◌&&◌, ◌||◌, nat_le, Bool, IsTrue, List, [], ◌∷◌, ◌++◌, length, slice_index, codes, IsSome, ⊤, if◌then◌else◌}
use Rattle.std.specs.List.{list_all}
use Rattle.base_decimals.specs.Numbers.{integer}
use Rattle.cacao_ids.specs.Uuids.{IsUuid}
use Rattle.oc2_nets.specs.Nets.{net4_of, net6_of}
use Rattle.cacao_vars.specs.declared.kinds.Kind.{Kind}
use Rattle.cacao_vars.specs.declared.kinds.Kind.TheVariants as kind

abbrev pub is_letter : ℕ → Bool
is_letter c = (nat_le 65 c && nat_le c 90) || (nat_le 97 c && nat_le c 122)

abbrev pub is_digit : ℕ → Bool
is_digit c = nat_le 48 c && nat_le c 57

-- a hexadecimal digit of either case
abbrev pub is_hex : ℕ → Bool
is_hex c = is_digit c || (nat_le 65 c && nat_le c 70) || (nat_le 97 c && nat_le c 102)

-- a letter, a digit, `+`, `-` or `.`
abbrev pub is_scheme_character : ℕ → Bool
is_scheme_character c = is_letter c || is_digit c || (c == 43) || (c == 45) || (c == 46)

-- a character of ASCII that is neither a space nor a control character
abbrev pub is_visible : ℕ → Bool
is_visible c = nat_le 33 c && nat_le c 126

-- the character may stand at this place of a MAC address
abbrev pub may_stand_in_mac : ℕ → ℕ → Bool
may_stand_in_mac k c = if k % 3 == 2 then c == 58 else is_hex c

-- six groups of two hexadecimal digits with `:` between
pub record IsMac (text : List ℕ) : Type 0 where
  pub size : length text ≡ 17
  pub characters : (k : ℕ) → k < 17 → IsTrue (may_stand_in_mac k (slice_index text k))

-- a letter, then letters, digits, `+`, `-` and `.`, a colon, and one or more visible characters
pub record IsUri (text : List ℕ) : Type 0 where
  pub letter : ℕ
  pub scheme : List ℕ
  pub rest : List ℕ
  pub letter_fits : IsTrue (is_letter letter)
  pub scheme_fits : IsTrue (list_all is_scheme_character scheme)
  pub some_rest : 1 ≤ length rest
  pub rest_fits : IsTrue (list_all is_visible rest)
  pub joined : text ≡ letter ∷ scheme ++ 58 ∷ rest

-- the texts of a kind: whole numbers are written without a plus sign and without a leading zero
abbrev pub IsOfKind : Kind → List ℕ → Type 0
IsOfKind kind.String text = ⊤
IsOfKind kind.Bool text = (text ≡ codes "true") ⊎ (text ≡ codes "false")
IsOfKind kind.Integer text = IsSome (integer 9007199254740991 9007199254740991 text)
IsOfKind kind.Long text = IsSome (integer 9223372036854775808 9223372036854775807 text)
IsOfKind kind.Ipv4Addr text = IsSome (net4_of text)
IsOfKind kind.Ipv6Addr text = IsSome (net6_of text)
IsOfKind kind.MacAddr text = IsMac text
IsOfKind kind.Uri text = IsUri text
IsOfKind kind.Uuid text = IsUuid text
IsOfKind kind.Hexstring text = (1 ≤ length text) × IsTrue (list_all is_hex text)
IsOfKind (kind.Other name) text = ⊤

abbrev pub FitsKind : Kind → List ℕ → Type 0
FitsKind kind text = (text ≡ []) ⊎ IsOfKind kind text
