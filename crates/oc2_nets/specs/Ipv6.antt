-- Promise: The text of an IPv6 address, in the first two forms of RFC 4291, section 2.2. The third, with an
-- IPv4 address at the end, is not taken.
use Rattle.std.specs.Prelude.{ℕ, ◌+◌, ◌-◌, List, [], ◌∷◌, ◌++◌, length, replicate, Bool, Option, Some, None, option_map, nat_lt, nat_le, ◌&&◌, ◌==◌, if◌then◌else◌}
use Rattle.std.specs.List.{list_all}
use Rattle.std.specs.Char.{is_digit}
use Rattle.std.specs.Str.Parse.{digits_value}
use Rattle.std.specs.Int.Digits.{number_from_digits}
use Rattle.oc2_nets.specs.Texts.{◌>>=◌, colon, parts}

-- one to four hexadecimal digits, of either case
abbrev pub is_group : List ℕ → Bool
is_group text = list_all (λ c. is_digit c 16) text && (nat_lt 0 (length text) && nat_le (length text) 4)

-- the sixteen bits that a group stands for
abbrev pub group : List ℕ → Option ℕ
group text = if is_group text then Some (digits_value 16 text) else None

-- each of the texts as a group
abbrev pub each : List (List ℕ) → Option (List ℕ)
each [] = Some []
each (text ∷ texts) = do
  first ← group text
  rest ← each texts
  Some (first ∷ rest)

-- groups with a colon between each two; the empty text has none
abbrev pub groups : List ℕ → Option (List ℕ)
groups [] = Some []
groups (c ∷ text) = each (parts colon (c ∷ text))

-- what stands before the first `::`, and what stands behind it
abbrev pub cut : List ℕ → Option (List ℕ × List ℕ)
cut [] = None
cut (c ∷ []) = None
cut (c ∷ d ∷ text) =
    if c == colon && d == colon then Some ([], text)
    else option_map (λ p. (c ∷ p.0, p.1)) (cut (d ∷ text))

-- form 1: eight groups
abbrev pub full : List ℕ → Option (List ℕ)
full text = do
  all ← groups text
  if length all == 8 then Some all else None

-- form 2: `::`, once, for as many groups of zero as there is room for, one at least
abbrev pub shortened : List ℕ × List ℕ → Option (List ℕ)
shortened text = do
  head ← groups text.0
  tail ← groups text.1
  if nat_lt (length head + length tail) 8
      then Some (head ++ replicate (8 - length head - length tail) 0 ++ tail) else None

abbrev pub by_form : List ℕ → Option (List ℕ × List ℕ) → Option (List ℕ)
by_form text None = full text
by_form text (Some around) = shortened around

-- the eight groups of an address
unfoldable pub segments : List ℕ → Option (List ℕ)
segments text = by_form text (cut text)

-- the eight groups, of sixteen bits each, the most significant first
unfoldable pub address6 : List ℕ → Option ℕ
address6 text = option_map (number_from_digits 65536) (segments text)
