-- Lists of zeros.
use Rattle.std.proofs.Common.{◌≡◌, ℕ, zero, suc, Bool, true, false, ◌==◌, ◌&&◌, List, [], ◌∷◌, get_or, refl, arith}
use Rattle.std.proofs.lemmas.Bool.Decides.{nat_tests}

abbrev pub is_zeros : List ℕ → Bool
is_zeros [] = true
is_zeros (x ∷ xs) = (x == 0) && is_zeros xs

first_and : (a b : Bool) → (a && b) ≡ true → (a ≡ true) × (b ≡ true)
first_and true b h = (refl, h)
first_and false b h = cc

pub get_or-zeros : (xs : List ℕ) (i : ℕ) → is_zeros xs ≡ true → get_or xs i 0 ≡ 0
get_or-zeros [] i h = refl
get_or-zeros (x ∷ xs) zero h = let both = first_and (x == 0) (is_zeros xs) h in let here = both.0 in grind (arith, nat_tests)
get_or-zeros (x ∷ xs) (suc i) h = get_or-zeros xs i (first_and (x == 0) (is_zeros xs) h).1
