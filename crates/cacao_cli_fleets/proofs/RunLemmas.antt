-- The numbers of the runs that the words name.
use Rattle.std.proofs.Common.{◌≡◌, ◌∙◌, refl, sym, ap, subst, arith, ℕ, zero, suc, ◌==◌, ◌<◌, ◌≤◌, ◌^◌, Bool, true, false, List, [], ◌∷◌, length, map, Option, Some}
use Rattle.std.specs.Prelude.{not, ◌&&◌, ◌||◌, slice_get}
use Rattle.std.specs.List.{list_any}
use Rattle.std.proofs.lemmas.Bool.{true≢false}
use Rattle.flow_fleet_laws.specs.Fleets.{AreRuns}
use Rattle.flow_fleet_laws.specs.Speeches.Form.{with_numbers}
use Rattle.cacao_cli_words.specs.Requests.{are_apart, has_number}
use Rattle.cacao_cli_words.specs.RunBooks.{run_of}
use Rattle.cacao_cli_words.specs.Words.{Text}
use Rattle.cacao_cli_words.specs.declared.run_book.RunBook.{RunBook}

abbrev pub first_of : ℕ × Text → ℕ
first_of pair = pair.0

abbrev pub numbers_of : List (ℕ × Text) → List ℕ
numbers_of pairs = map first_of pairs

same-some : (a b : ℕ) → Some a ≡ Some b → a ≡ b
same-some a b e = cc

-- a number that stands among others is found there
found : (pairs : List (ℕ × Text)) (k n : ℕ) → slice_get (numbers_of pairs) k ≡ Some n → has_number n pairs ≡ true
found [] k n e = absurd (cc)
found (pair ∷ pairs) zero n e = let is : pair.0 ≡ n = same-some pair.0 n e in ap (λ (b : Bool). b || has_number n pairs) (ap (λ (m : ℕ). m == n) is ∙ same n)
  where
    same : (m : ℕ) → (m == m) ≡ true
    same m = grind arith
found (pair ∷ pairs) (suc k) n e = ap (λ (b : Bool). (pair.0 == n) || b) (found pairs k n e) ∙ or-true (pair.0 == n)
  where
    or-true : (b : Bool) → (b || true) ≡ true
    or-true true = refl
    or-true false = refl

split : (a b : Bool) → (not a && b) ≡ true → (a ≡ false) × (b ≡ true)
split true b e = absurd (true≢false (sym e))
split false b e = (refl, e)

pub once : (pairs : List (ℕ × Text)) → are_apart pairs ≡ true → (j k n : ℕ) → slice_get (numbers_of pairs) j ≡ Some n → slice_get (numbers_of pairs) k ≡ Some n → k ≡ j
once [] apart j k n a b = absurd (cc)
once (pair ∷ pairs) apart zero zero n a b = refl
once (pair ∷ pairs) apart zero (suc k) n a b =
    absurd (true≢false (sym (found pairs k pair.0 (b ∙ sym a)) ∙ (split (has_number pair.0 pairs) (are_apart pairs) apart).0))
once (pair ∷ pairs) apart (suc j) zero n a b =
    absurd (true≢false (sym (found pairs j pair.0 (a ∙ sym b)) ∙ (split (has_number pair.0 pairs) (are_apart pairs) apart).0))
once (pair ∷ pairs) apart (suc j) (suc k) n a b = ap suc (once pairs (split (has_number pair.0 pairs) (are_apart pairs) apart).1 j k n a b)

small : (runs : List RunBook) (k n : ℕ) → slice_get (numbers_of (map run_of runs)) k ≡ Some n → n < 2 ^ 64
small [] k n e = absurd (cc)
small (one ∷ runs) zero n e = let is : one.run ≡ n = same-some one.run n e in omega (arith, is, one.within)
small (one ∷ runs) (suc k) n e = small runs k n e

long : (runs : List RunBook) → length (numbers_of (map run_of runs)) ≡ length runs
long [] = refl
long (one ∷ runs) = ap suc (long runs)

-- 1 to 16 numbers, each once
pub are-runs : (runs : List RunBook) → length runs ≤ 16 → are_apart (map run_of runs) ≡ true → AreRuns with_numbers (numbers_of (map run_of runs))
are-runs runs few apart = record {
  few = omega (arith, few, long runs);
  small = small runs;
  once = λ place other run a b. once (map run_of runs) apart place other run a b;
}
