-- Integers in decimal, by their numbers.
use Rattle.std.proofs.Common.{◌≡◌, ◌∙◌, ◌<◌, ◌≤◌, ◌^◌, ℕ, zero, suc, ℤ, pos, negsuc, Bool, true, false, List, [], ◌∷◌, get_or, drop, cond, Option, Some, None, refl, ap, subst, arith, inl, inr, lit<}
use Rattle.std.specs.Prelude.{option_map, option_and_then}
use Rattle.std.specs.Fmt.{decimal, signed_decimal}
use Rattle.std.proofs.lemmas.Bool.{cases_lt}
use Rattle.std.proofs.lemmas.Option.{none-some, same_Some, option_and_then_some}
use Rattle.std.proofs.lemmas.Fmt.{first_decimal, decimal_digit}
use Rattle.base_decimals.specs.Numbers.{number, begins_with_minus, minus}
use Rattle.base_decimals.specs.Laws.{IsBetween, NumbersReadBack, IntegersReadBack, IntegersAreSpelled}
use Rattle.base_decimals.proofs.Decimals.{number_some, number_sound}

pub numbers_read_back : NumbersReadBack
numbers_read_back most n fits small = number_some most n (decimal n) fits small refl

-- a number's text begins with no minus sign
head_is : (cs : List ℕ) → 47 < get_or cs 0 0 → begins_with_minus cs ≡ false
head_is [] h = absurd (omega arith)
head_is (c ∷ cs) h = grind arith

no_minus : (n : ℕ) → n < 2 ^ 64 → begins_with_minus (decimal n) ≡ false
no_minus n small = elim (cases_lt 0 n) [
  | inl some ↦ let first : 48 < get_or (decimal n) 0 0 = first_decimal n some small in head_is (decimal n) (omega arith)
  | inr none ↦
      let zero_is : n ≡ 0 = omega arith in
      let one : decimal n ≡ 48 ∷ [] = ap decimal zero_is ∙ decimal_digit 0 (lit< tt) in
      rw one refl
]

pub integers_read_back : IntegersReadBack
integers_read_back below above (pos n) fits b a =
    rw (no_minus n (omega arith)) (rw (numbers_read_back above n fits a) refl)
integers_read_back below above (negsuc n) fits b a = rw (numbers_read_back below (suc n) fits b) refl

-- what stands behind the minus sign
minus_is : (text : List ℕ) → begins_with_minus text ≡ true → text ≡ 45 ∷ drop 1 text
minus_is [] e = absurd (cc e)
minus_is (c ∷ cs) e = let same : c ≡ 45 = grind arith in ap (λ d. d ∷ cs) same

minus_spelled : (n : ℕ) (z : ℤ) → minus n ≡ Some z → (above below : ℕ) → n ≤ below → (45 ∷ decimal n ≡ signed_decimal z) × IsBetween below above z
minus_spelled zero z e above below h = absurd (none-some z e)
minus_spelled (suc n) z e above below h =
    let same : negsuc n ≡ z = same_Some _ z e in
    (ap signed_decimal same, subst (IsBetween below above) same h)

with_minus : (below above : ℕ) (z : ℤ) (text : List ℕ) → begins_with_minus text ≡ true → option_and_then minus (number below (drop 1 text)) ≡ Some z
    → (text ≡ signed_decimal z) × IsBetween below above z
with_minus below above z text first e = option_and_then_some minus (number below (drop 1 text)) z e λ n found is.
    let sound = number_sound below n (drop 1 text) found in
    let spelled = minus_spelled n z is above below sound.1 in
    (minus_is text first ∙ ap (λ d. 45 ∷ d) sound.0 ∙ spelled.0, spelled.1)

map_some : {A B P : Type 0} (f : A → B) (o : Option A) (y : B) → option_map f o ≡ Some y → ((x : A) → o ≡ Some x → f x ≡ y → P) → P
map_some f None y e k = absurd (none-some y e)
map_some f (Some x) y e k = k x refl (same_Some _ y e)

without : (below above : ℕ) (z : ℤ) (text : List ℕ) → option_map pos (number above text) ≡ Some z → (text ≡ signed_decimal z) × IsBetween below above z
without below above z text e = map_some pos (number above text) z e λ n found same.
    let sound = number_sound above n text found in
    (sound.0 ∙ ap signed_decimal same, subst (IsBetween below above) same sound.1)

by_sign : (below above : ℕ) (z : ℤ) (text : List ℕ) (b : Bool) → begins_with_minus text ≡ b
    → cond b (option_and_then minus (number below (drop 1 text))) (option_map pos (number above text)) ≡ Some z
    → (text ≡ signed_decimal z) × IsBetween below above z
by_sign below above z text true first e = with_minus below above z text first e
by_sign below above z text false first e = without below above z text e

pub integers_are_spelled : IntegersAreSpelled
integers_are_spelled below above z text e = by_sign below above z text (begins_with_minus text) refl e
