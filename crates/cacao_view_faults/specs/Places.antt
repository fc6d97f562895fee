-- Promise: The line and the column of a place of a text.
use Rattle.std.specs.Prelude.{ℕ, ◌+◌, ◌==◌, ◌&&◌, nat_le, nat_lt, Bool, List, take, fold, if◌then◌else◌}

-- a line, counted from 1, and a column of it, counted in characters from 1
pub record Place : Type 0 where
  pub line : ℕ
  pub column : ℕ

-- a byte that goes on with a character of UTF-8
abbrev pub goes_on : ℕ → Bool
goes_on byte = nat_le 128 byte && nat_lt byte 192

-- the place behind one more byte
abbrev pub behind : Place → ℕ → Place
behind place byte =
    if byte == 10 then record { line = place.line + 1; column = 1 }
    else if goes_on byte then place
    else record { line = place.line; column = place.column + 1 }

abbrev pub first_place : Place
first_place = record { line = 1; column = 1 }

-- the place behind so many bytes of a text
abbrev pub place_behind : List ℕ → ℕ → Place
place_behind text at = fold behind first_place (take at text)
