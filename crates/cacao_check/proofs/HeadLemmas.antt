-- Keys that all have a place, by how many places they have.
use Rattle.std.proofs.Common.{◌≡◌, ◌<◌, ◌≤◌, ℕ, suc, Bool, true, false, List, [], ◌∷◌, length, filter_map, Option, Some, None, is_some, ap₂, ◌∙◌, arith}
use Rattle.std.specs.Prelude.{◌==◌, ◌&&◌}
use Rattle.std.specs.List.{list_all, cons_option}

same : (m : ℕ) → (m == m) ≡ true
same m = grind arith

fewer : (m n : ℕ) → m < n → (m == n) ≡ false
fewer m n lt = grind arith

one_more : (m n : ℕ) → (suc m == suc n) ≡ (m == n)
one_more m n = grind arith

-- one key more
most_more : (place : Option ℕ) (places : List ℕ) (n : ℕ) → length places ≤ n → length (cons_option place places) ≤ suc n
most_more None places n le = omega arith
most_more (Some place) places n le = omega arith

found_more : (place : Option ℕ) (places : List ℕ) (n : ℕ) (rest : Bool) → length places ≤ n → (length places == n) ≡ rest
    → (length (cons_option place places) == suc n) ≡ (is_some place && rest)
found_more None places n rest le e = fewer (length places) (suc n) (omega arith)
found_more (Some place) places n rest le e = one_more (length places) n ∙ e

-- at most one place a key
most_found : (find : List ℕ → Option ℕ) (keys : List (List ℕ)) → length (filter_map find keys) ≤ length keys
most_found find [] = omega arith
most_found find (key ∷ keys) = most_more (find key) (filter_map find keys) (length keys) (most_found find keys)

each_found : (find : List ℕ → Option ℕ) (keys : List (List ℕ)) → (length (filter_map find keys) == length keys) ≡ list_all (λ key. is_some (find key)) keys
each_found find [] = same 0
each_found find (key ∷ keys) =
    found_more (find key) (filter_map find keys) (length keys) (list_all (λ key. is_some (find key)) keys) (most_found find keys) (each_found find keys)

-- as many places as keys: each key has one
pub all_found : (find : List ℕ → Option ℕ) (keys : List (List ℕ)) (places : List ℕ) (n : ℕ) → places ≡ filter_map find keys → n ≡ length keys
    → (length places == n) ≡ list_all (λ key. is_some (find key)) keys
all_found find keys places n e f = ap₂ (λ (places : List ℕ) (n : ℕ). length places == n) e f ∙ each_found find keys
