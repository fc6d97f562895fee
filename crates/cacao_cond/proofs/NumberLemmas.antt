-- A text that is a number in decimal.
use Rattle.std.proofs.Common.{◌≡◌, ◌<◌, ◌^◌, ℕ, Some, List, refl, arith}
use Rattle.std.specs.Fmt.{decimal}
use Rattle.base_decimals.proofs.Decimals.{number_some, number_sound}
use Rattle.cacao_cond.specs.Reading.{number_of}

-- the number of a decimal text is that number
pub number_of-decimal : (n : ℕ) → n < 2 ^ 64 → number_of (decimal n) ≡ Some n
number_of-decimal n small = number_some 18446744073709551615 n (decimal n) (omega arith) (omega arith) refl

pub number_of-is : (digits : List ℕ) (n : ℕ) → number_of digits ≡ Some n → (n < 2 ^ 64) × (digits ≡ decimal n)
number_of-is digits n e = let sound = number_sound 18446744073709551615 n digits e in (omega (arith, sound.1), sound.0)
