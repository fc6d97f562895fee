-- Promise: The numbers that texts are in decimal.
use Rattle.std.specs.Prelude.{ℕ, zero, suc, ℤ, pos, negsuc, List, [], ◌∷◌, drop, Bool, false, Option, Some, None, option_map, option_and_then, nat_le, ◌&&◌, ◌==◌, if◌then◌else◌}
use Rattle.std.specs.Str.{bytes_eq}
use Rattle.std.specs.Fmt.{decimal}
use Rattle.std.specs.Str.Parse.{digits_value}

-- The number of at most `most` that a text is in decimal. As it is written by `decimal`, it has neither
-- a sign nor a leading zero.
unfoldable pub number : ℕ → List ℕ → Option ℕ
number most text =
    let n = digits_value 10 text in
    if bytes_eq text (decimal n) && nat_le n most then Some n else None

abbrev pub begins_with_minus : List ℕ → Bool
begins_with_minus [] = false
begins_with_minus (c ∷ cs) = c == 45

-- the negative number of a magnitude; `-0` is none
abbrev pub minus : ℕ → Option ℤ
minus zero = None
minus (suc n) = Some (negsuc n)

-- the integer from `-below` to `above` that a text is in decimal
abbrev pub integer : ℕ → ℕ → List ℕ → Option ℤ
integer below above text =
    if begins_with_minus text then option_and_then minus (number below (drop 1 text)) else option_map pos (number above text)
