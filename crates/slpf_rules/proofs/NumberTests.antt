-- Tests of numbers, and of lists by a test.
use Rattle.std.proofs.Common.{◌≡◌, ℕ, ◌<◌, ◌≤◌, Bool, true, false, cond, ◌==◌, nat_lt, not, ◌||◌, List, [], ◌∷◌, filter, find, Some, is_some, nat_cmp, refl, ap, arith}
use Rattle.std.specs.List.{list_any}
use Rattle.std.specs.Ordering.{is_eq}
use Rattle.std.proofs.lemmas.Bool.Decides.{nat_tests}

pub is_eq_nat : (n k : ℕ) → is_eq (nat_cmp n k) ≡ (k == n)
is_eq_nat n k = grind (arith, nat_tests)

pub lt_is : (n k : ℕ) → n < k → nat_lt n k ≡ true
lt_is n k h = grind (arith, nat_tests)

pub not_lt_is : (n k : ℕ) → k ≤ n → nat_lt n k ≡ false
not_lt_is n k h = grind (arith, nat_tests)

pub eq_is : (n k : ℕ) → n ≡ k → (n == k) ≡ true
eq_is n k h = grind (arith, nat_tests)

pub is_some-find : {A : Type 0} (test : A → Bool) (xs : List A) → is_some (find test xs) ≡ list_any test xs
is_some-find test [] = refl
is_some-find test (x ∷ xs) =
    elim (test x) as (λ b. is_some (cond b (Some x) (find test xs)) ≡ (b || list_any test xs)) [ true ↦ refl | false ↦ is_some-find test xs ]

filter_step : {A : Type 0} (x : A) (xs kept : List A) (b any : Bool) → (any ≡ false → kept ≡ xs) → (b || any) ≡ false → cond (not b) (x ∷ kept) kept ≡ x ∷ xs
filter_step x xs kept true any ih h = cc
filter_step x xs kept false any ih h = ap (λ l. x ∷ l) (ih h)

-- a filter that takes out what no element is keeps all
pub filter_all : {A : Type 0} (test : A → Bool) (xs : List A) → list_any test xs ≡ false → filter (λ x. not (test x)) xs ≡ xs
filter_all test [] h = refl
filter_all test (x ∷ xs) h = filter_step x xs (filter (λ y. not (test y)) xs) (test x) (list_any test xs) (filter_all test xs) h

pub or_right : (a b : Bool) → (a || b) ≡ false → b ≡ false
or_right true b h = cc
or_right false b h = h

pub or_left : (a b : Bool) → (a || b) ≡ false → a ≡ false
or_left true b h = cc
or_left false b h = refl

pub or_none : (a b : Bool) → a ≡ false → b ≡ false → (a || b) ≡ false
or_none a b h w = cc

pub differs : (n k : ℕ) → k < n → (n == k) ≡ false
differs n k h = grind (arith, nat_tests)

pub same_from : (n k : ℕ) → (n == k) ≡ true → n ≡ k
same_from n k h = grind (arith, nat_tests)

pub apart_from : (n k : ℕ) → n < k → (n == k) ≡ false
apart_from n k h = grind (arith, nat_tests)
