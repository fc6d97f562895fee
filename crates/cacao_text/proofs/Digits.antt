-- What a whole number's text is made of.
use Rattle.std.proofs.Common.{◌≡◌, ℕ, suc, zero, ◌+◌, ◌%◌, ◌^◌, ◌<◌, ◌≤◌, pos, negsuc, List, [], ◌∷◌, ◌++◌, true, get_or, arith}
use Rattle.std.proofs.lemmas.Bool.{leb-true}
use Rattle.std.proofs.lemmas.Fmt.{decimal_by_steps}
use Rattle.std.specs.Prelude.{decimal, IsUtf8}
use Rattle.std.proofs.lemmas.Str.{IsUtf8-from_ascii}
use Rattle.serde_json.specs.Data.{Num, unsigned, negative, float}
use Rattle.cacao_json.specs.Counts.{is_whole}
use Rattle.cacao_text.specs.Canon.{whole_text}
use Rattle.cacao_text.proofs.Sorting.{Each}

-- a digit, or a minus
pub record IsMark (x : ℕ) : Type 0 where
  pub low : 45 ≤ x
  pub high : x < 58

each_push : (ds : List ℕ) (x : ℕ) → Each IsMark ds → IsMark x → Each IsMark (ds ++ x ∷ [])
each_push [] x w h = (h, tt)
each_push (d ∷ ds) x w h = (w.0, each_push ds x w.1 h)

digits : (n : ℕ) → n < 2 ^ 64 → Each IsMark (decimal n)
digits n small =
    decimal_by_steps (λ k ds. Each IsMark ds) (λ k h. (record { low = omega arith; high = omega arith }, tt))
    (λ k ds h w. each_push ds (48 + k % 10) w (record { low = omega arith; high = omega arith })) n small

pub whole_text-marks : (n : Num) → is_whole n ≡ true → Each IsMark (whole_text n)
whole_text-marks (unsigned n) h = digits n (omega (arith, leb-true n 9007199254740991 h))
whole_text-marks (negative (pos n)) h = absurd (cc)
whole_text-marks (negative (negsuc n)) h = (record { low = omega arith; high = omega arith }, digits (suc n) (omega (arith, leb-true (n + 1) 9007199254740991 h)))
whole_text-marks (float x) h = absurd (cc)

ascii : (ds : List ℕ) → Each IsMark ds → (i : ℕ) → get_or ds i 0 < 128
ascii [] w i = omega arith
ascii (d ∷ ds) w zero = omega (arith, w.0.high)
ascii (d ∷ ds) w (suc i) = ascii ds w.1 i

pub IsUtf8-marks : (ds : List ℕ) → Each IsMark ds → IsUtf8 ds
IsUtf8-marks ds w = IsUtf8-from_ascii ds (ascii ds w)
