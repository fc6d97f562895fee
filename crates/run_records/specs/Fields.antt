-- Promise: Fields from the front of a list of bytes: the value, and the bytes behind it.
use Rattle.std.specs.Prelude.{ℕ, zero, suc, List, [], ◌∷◌, length, take, drop, Option, Some, None, option_and_then, nat_le, ◌&&◌, if◌then◌else◌}
use Rattle.std.specs.Int.{Width, w32, byte_len, from_be_bytes}
use Rattle.std.specs.Str.{is_utf8}
use Rattle.std.specs.Borrow.{Bor}
use Rattle.run_records.specs.Ranges.{most_text}

infixl 10 ◌>>=◌
abbrev pub ◌>>=◌ : {A B : Type 0} → Option A → (A → Option B) → Option B
o >>= f = option_and_then f o

-- a number of that width
unfoldable pub number_at : Width → List ℕ → Option (ℕ × List ℕ)
number_at w bytes =
    if nat_le (byte_len w) (length bytes)
    then Some (from_be_bytes w (take (byte_len w) bytes), drop (byte_len w) bytes) else None

-- a number of one byte from 1 to 16
unfoldable pub small_at : List ℕ → Option (ℕ × List ℕ)
small_at [] = None
small_at (n ∷ bytes) = if nat_le 1 n && nat_le n 16 then Some (n, bytes) else None

-- a length of at most that much, and so many bytes
unfoldable pub string_at : ℕ → List ℕ → Option (List ℕ × List ℕ)
string_at most bytes = do
  n ← number_at w32 bytes
  if nat_le n.0 most && nat_le n.0 (length n.1) then Some (take n.0 n.1, drop n.0 n.1) else None

-- the same of a text in UTF-8
unfoldable pub text_at : ℕ → List ℕ → Option (List ℕ × List ℕ)
text_at most bytes = do
  text ← string_at most bytes
  if is_utf8 text.0 then Some text else None

-- so many texts, one behind the other
unfoldable pub strings_at : ℕ → List ℕ → Option (List (List ℕ) × List ℕ)
strings_at zero bytes = Some ([], bytes)
strings_at (suc n) bytes = do
  first ← string_at most_text bytes
  others ← strings_at n first.1
  Some (first.0 ∷ others.0, others.1)

-- what the code has of a field that is a number
abbrev pub value_and_rest : ℕ × Bor (List ℕ) → ℕ × List ℕ
value_and_rest x = (x.0, x.1.now)
