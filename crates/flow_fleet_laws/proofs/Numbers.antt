-- Numbers before lines.
use Rattle.std.proofs.Common.{◌≡◌, ℕ, zero, suc, ◌<◌, ◌^◌, ◌/◌, ◌%◌, ◌==◌, ◌&&◌, Bool, true, false, List, [], ◌∷◌, ◌++◌, length, arith, refl, sym, subst, ◌∙◌, if◌then◌else◌}
use Rattle.std.specs.Fmt.{decimal, digits, digits_onto, digit_glyph}
use Rattle.std.specs.List.{list_all}
use Rattle.std.proofs.lemmas.Fmt.{decimal_injective}
use Rattle.std.proofs.lemmas.List.{append_assoc}
use Rattle.flow_core_rules.specs.Laws.{AreDigits, is_digit}
use Rattle.flow_fleet_laws.specs.Speeches.{head_of}

-- ---- a number has digits alone, at least one

glyph-digit : (n : ℕ) → is_digit (digit_glyph false (n % 10)) ≡ true
glyph-digit n = grind arith

one-of : (P : List ℕ → Type 0) (b : Bool) (xs ys : List ℕ) → P xs → P ys → P (if b then xs else ys)
one-of P true xs ys p q = p
one-of P false xs ys p q = q

onto-digits : (k n : ℕ) (acc : List ℕ) → list_all is_digit acc ≡ true → list_all is_digit (digits_onto k 10 false n acc) ≡ true
onto-digits zero n acc h = h
onto-digits (suc k) n acc h = one-of (λ l. list_all is_digit l ≡ true) (n / 10 == 0) (digit_glyph false (n % 10) ∷ acc) (digits_onto k 10 false (n / 10) (digit_glyph false (n % 10) ∷ acc)) more
    (onto-digits k (n / 10) (digit_glyph false (n % 10) ∷ acc) more)
  where
    more : list_all is_digit (digit_glyph false (n % 10) ∷ acc) ≡ true
    more = rw (glyph-digit n, h) refl

onto-some : (k n : ℕ) (acc : List ℕ) → 0 < length acc → 0 < length (digits_onto k 10 false n acc)
onto-some zero n acc h = h
onto-some (suc k) n acc h = one-of (λ l. 0 < length l) (n / 10 == 0) (digit_glyph false (n % 10) ∷ acc) (digits_onto k 10 false (n / 10) (digit_glyph false (n % 10) ∷ acc)) (omega arith)
    (onto-some k (n / 10) (digit_glyph false (n % 10) ∷ acc) (omega arith))

onto-first : (k n : ℕ) → 0 < length (digits_onto (suc k) 10 false n [])
onto-first k n = one-of (λ l. 0 < length l) (n / 10 == 0) (digit_glyph false (n % 10) ∷ []) (digits_onto k 10 false (n / 10) (digit_glyph false (n % 10) ∷ [])) (omega arith)
    (onto-some k (n / 10) (digit_glyph false (n % 10) ∷ []) (omega arith))

pub are_digits : (n : ℕ) → AreDigits (decimal n)
unfolding digits
are_digits n = (onto-first 63 n, onto-digits 64 n [] refl)

-- ---- two heads are of one number

both_true : (a b : Bool) → (a && b) ≡ true → (a ≡ true) × (b ≡ true)
both_true true true e = (refl, refl)
both_true true false e = let f : false ≡ true = e in absurd (cc)
both_true false b e = let f : false ≡ true = e in absurd (cc)

apart : (x y : ℕ) → is_digit x ≡ false → is_digit y ≡ true → x ≡ y → ⊥
apart x y other digit same = let a : is_digit y ≡ false = subst (λ (z : ℕ). is_digit z ≡ false) same other in let b : true ≡ false = sym digit ∙ a in absurd (cc)

-- digits up to a character that is none are the same, however they are taken, and so is what stands behind them
pub same_digits : (xs ys : List ℕ) (a b : ℕ) (after_a after_b : List ℕ) → list_all is_digit xs ≡ true → list_all is_digit ys ≡ true → is_digit a ≡ false → is_digit b ≡ false
    → xs ++ a ∷ after_a ≡ ys ++ b ∷ after_b → (xs ≡ ys) × (a ≡ b) × (after_a ≡ after_b)
same_digits [] [] a b after_a after_b dx dy na nb e = (refl, cc, cc)
same_digits [] (y ∷ ys) a b after_a after_b dx dy na nb e =
    let f : a ≡ y = cc in absurd (apart a y na (both_true (is_digit y) (list_all is_digit ys) dy).0 f)
same_digits (x ∷ xs) [] a b after_a after_b dx dy na nb e =
    let f : b ≡ x = cc in absurd (apart b x nb (both_true (is_digit x) (list_all is_digit xs) dx).0 f)
same_digits (x ∷ xs) (y ∷ ys) a b after_a after_b dx dy na nb e =
    let f : x ≡ y = cc in
    let g : xs ++ a ∷ after_a ≡ ys ++ b ∷ after_b = cc in
    let rest = same_digits xs ys a b after_a after_b (both_true (is_digit x) (list_all is_digit xs) dx).1 (both_true (is_digit y) (list_all is_digit ys) dy).1 na nb g in
    let h : xs ≡ ys = rest.0 in
    (cc, rest.1, rest.2)

-- a run's number, its space and what stands behind it
pub behind_head : (n : ℕ) (text : List ℕ) → head_of n ++ text ≡ decimal n ++ 32 ∷ text
behind_head n text = append_assoc (decimal n) (32 ∷ []) text

pub same_number : (n m : ℕ) (a b : List ℕ) → n < 2 ^ 64 → m < 2 ^ 64 → head_of n ++ a ≡ head_of m ++ b → n ≡ m
same_number n m a b small small' e =
    decimal_injective n m small small' (same_digits (decimal n) (decimal m) 32 32 a b (are_digits n).1 (are_digits m).1 refl refl
    (sym (behind_head n a) ∙ e ∙ behind_head m b)).0
