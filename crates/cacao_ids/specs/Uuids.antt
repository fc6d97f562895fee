-- Promise: The text form of a UUID, as identifiers use it: RFC 9562, in lower case.
use Rattle.std.specs.Prelude.{◌≡◌, ℕ, ◌<◌, ◌==◌, ◌&&◌, ◌||◌, nat_le, Bool, IsTrue, List, length, slice_index, if◌then◌else◌}

-- a decimal digit, or a letter from `a` to `f`
abbrev pub is_lower_hex : ℕ → Bool
is_lower_hex c = (nat_le 48 c && nat_le c 57) || (nat_le 97 c && nat_le c 102)

-- whether a hyphen stands at this place
abbrev pub is_hyphen_at : ℕ → Bool
is_hyphen_at k = (k == 8) || (k == 13) || (k == 18) || (k == 23)

-- whether the character may stand at this place
abbrev pub may_stand : ℕ → ℕ → Bool
may_stand k c = if is_hyphen_at k then c == 45 else is_lower_hex c

-- 36 characters, lower-case hexadecimal digits with hyphens in the form 8-4-4-4-12
pub record IsUuid (text : List ℕ) : Type 0 where
  pub size : length text ≡ 36
  pub characters : (k : ℕ) → k < 36 → IsTrue (may_stand k (slice_index text k))
