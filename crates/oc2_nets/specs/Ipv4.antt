-- Promise: The text of an IPv4 address.
use Rattle.std.specs.Prelude.{ℕ, List, [], ◌∷◌, Option, Some, None, option_map}
use Rattle.std.specs.Int.Digits.{number_from_digits}
use Rattle.oc2_nets.specs.Texts.{◌>>=◌, dot, parts}
use Rattle.base_decimals.specs.Numbers.{number}

-- four numbers from 0 to 255
abbrev pub octets : List (List ℕ) → Option (List ℕ)
octets (a ∷ b ∷ c ∷ d ∷ []) = do
  first ← number 255 a
  second ← number 255 b
  third ← number 255 c
  fourth ← number 255 d
  Some (first ∷ second ∷ third ∷ fourth ∷ [])
octets _ = None

-- four decimal numbers from 0 to 255 without leading zeros, joined by dots: the octets of the address,
-- the most significant first
unfoldable pub address4 : List ℕ → Option ℕ
address4 text = option_map (number_from_digits 256) (octets (parts dot text))
