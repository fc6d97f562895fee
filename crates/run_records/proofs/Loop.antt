-- Reading texts one after the other, as a loop does.
use Rattle.std.proofs.Common.{◌≡◌, ℕ, suc, ◌-◌, ◌+◌, ◌≤◌, ◌<◌, List, [], ◌∷◌, ◌++◌, Option, Some, None, option_map, refl, sym, ap, ◌∙◌, append_assoc, append-nil, arith}
use Rattle.run_records.specs.Ranges.{most_text}
use Rattle.run_records.specs.Fields.{◌>>=◌, string_at, strings_at}

-- what was read before, and what is still read
abbrev pub with_front : List (List ℕ) → Option (List (List ℕ) × List ℕ) → Option (List (List ℕ) × List ℕ)
with_front front read = option_map (λ x. (front ++ x.0, x.1)) read

regroup : (front : List (List ℕ)) (text : List ℕ) (read : Option (List (List ℕ) × List ℕ)) → with_front front (read >>= λ x. Some (text ∷ x.0, x.1)) ≡ with_front (front ++ text ∷ []) read
regroup front text (Some x) = ap (λ (ts : List (List ℕ)). Some (ts, x.1)) (sym (append_assoc front (text ∷ []) x.0))
regroup front text None = refl

pub goes_on : (front : List (List ℕ)) (count i : ℕ) (bytes text behind : List ℕ) (total : Option (List (List ℕ) × List ℕ)) → i < count → string_at most_text bytes ≡ Some (text, behind)
    → with_front front (strings_at (count - i) bytes) ≡ total → with_front (front ++ text ∷ []) (strings_at (count - (i + 1)) behind) ≡ total
unfolding strings_at
goes_on front count i bytes text behind total lt h so_far =
    let k : count - i ≡ suc (count - (i + 1)) = omega arith in
    let one : with_front front (strings_at (count - i) bytes) ≡ with_front (front ++ text ∷ []) (strings_at (count - (i + 1)) behind) = rw (k, h) (regroup front text (strings_at (count - (i + 1)) behind)) in
    sym one ∙ so_far

pub ends : (front : List (List ℕ)) (count i : ℕ) (bytes : List ℕ) (total : Option (List (List ℕ) × List ℕ)) → i < count → string_at most_text bytes ≡ None
    → with_front front (strings_at (count - i) bytes) ≡ total → None ≡ total
unfolding strings_at
ends front count i bytes total lt h so_far =
    let k : count - i ≡ suc (count - (i + 1)) = omega arith in
    let one : with_front front (strings_at (count - i) bytes) ≡ None = rw (k, h) refl in
    sym one ∙ so_far

pub is_done : (front : List (List ℕ)) (count i : ℕ) (bytes : List ℕ) (total : Option (List (List ℕ) × List ℕ)) → count ≤ i → with_front front (strings_at (count - i) bytes) ≡ total → Some (front, bytes) ≡ total
unfolding strings_at
is_done front count i bytes total le so_far =
    let k : count - i ≡ 0 = omega arith in
    let one : with_front front (strings_at (count - i) bytes) ≡ Some (front, bytes) = rw k (ap (λ (ts : List (List ℕ)). Some (ts, bytes)) (append-nil front)) in
    sym one ∙ so_far
