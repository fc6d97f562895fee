-- Promise: The laws of numbers in decimal.
use Rattle.std.specs.Prelude.{◌≡◌, ℕ, suc, ℤ, pos, negsuc, ◌≤◌, ◌<◌, ◌^◌, List, Some}
use Rattle.std.specs.Fmt.{decimal, signed_decimal}
use Rattle.base_decimals.specs.Numbers.{number, integer}

-- from `-below` to `above`
abbrev pub IsBetween : ℕ → ℕ → ℤ → Type 0
IsBetween below above (pos n) = n ≤ above
IsBetween below above (negsuc n) = suc n ≤ below

-- what a number is written as has that number
abbrev pub NumbersReadBack : Type 0
NumbersReadBack = (most n : ℕ) → n ≤ most → most < 2 ^ 64 → number most (decimal n) ≡ Some n

-- a text that has a number is what the number is written as
abbrev pub NumbersAreSpelled : Type 0
NumbersAreSpelled = (most n : ℕ) (text : List ℕ) → number most text ≡ Some n → (text ≡ decimal n) × (n ≤ most)

abbrev pub IntegersReadBack : Type 0
IntegersReadBack =
    (below above : ℕ) (z : ℤ) → IsBetween below above z → below < 2 ^ 64 → above < 2 ^ 64
    → integer below above (signed_decimal z) ≡ Some z

abbrev pub IntegersAreSpelled : Type 0
IntegersAreSpelled =
    (below above : ℕ) (z : ℤ) (text : List ℕ) → integer below above text ≡ Some z
    → (text ≡ signed_decimal z) × IsBetween below above z
