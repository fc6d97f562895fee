-- Twelve hexadecimal digits as they are printed.
use Rattle.std.proofs.Common.{◌≡◌, ℕ, ◌-◌, false, List, [], ◌++◌, length, ap₂, arith, append-nil}
use Rattle.std.specs.Prelude.{replicate}
use Rattle.std.specs.Fmt.{char_count, format_spec, padded_integral}

-- at least twelve digits, with zeros in front
pub filled : (numeral : List ℕ) → padded_integral (format_spec 32 0 4 12 18446744073709551615) false [] numeral ≡ replicate (12 - length numeral) 48 ++ numeral
unfolding padded_integral char_count
filled numeral = ap₂ (λ (n : ℕ) (l : List ℕ). replicate n 48 ++ l) (omega arith) (append-nil numeral)
