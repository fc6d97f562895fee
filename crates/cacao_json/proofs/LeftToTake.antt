-- What is left to take of a count of numbers.
use Rattle.std.proofs.Common.{◌≡◌, ℕ, suc, ◌+◌, ◌-◌, ◌<◌, List, [], ◌∷◌, ◌++◌, length, Bool, true, false, Option, Some, None, option_map, refl, sym, ap, ◌∙◌, arith, length-append}
use Rattle.std.specs.Prelude.{if◌then◌else◌}
use Rattle.serde_json.specs.Data.{Num}
use Rattle.cacao_json_counts.specs.Counts.{is_whole, first_broken}

-- of all numbers the rest is left, and the others are whole
pub record IsLeft (count left : ℕ) (all rest : List Num) : Type 0 where
  pub taken : ℕ
  pub left_is : left ≡ count - taken
  pub first : option_map (λ i. taken + i) (first_broken rest) ≡ first_broken all
  pub length_is : taken + length rest ≡ length all

map_zero : (o : Option ℕ) → option_map (λ i. 0 + i) o ≡ o
map_zero None = refl
map_zero (Some i) = ap Some (omega arith)

map_more : (n m : ℕ) (o : Option ℕ) → option_map (λ i. n + i) (option_map (λ i. m + i) o) ≡ option_map (λ i. n + m + i) o
map_more n m None = refl
map_more n m (Some i) = ap Some (omega arith)

pub is_left_start : (count : ℕ) (all : List Num) → IsLeft count count all all
is_left_start count all = record { taken = 0; left_is = omega arith; first = map_zero (first_broken all); length_is = omega arith }

suc_more : (n : ℕ) (q : Option ℕ) → option_map suc (option_map (λ i. n + i) q) ≡ option_map (λ i. suc n + i) q
suc_more n None = refl
suc_more n (Some i) = ap Some (omega arith)

whole_by : (b : Bool) (o p q : Option ℕ) (n : ℕ) → (o ≡ None → p ≡ option_map (λ i. n + i) q) → (if b then option_map suc o else Some 0) ≡ None → (if b then option_map suc p else Some 0) ≡ option_map (λ i. suc n + i) q
whole_by true None p q n f e = ap (option_map suc) (f refl) ∙ suc_more n q
whole_by true (Some i) p q n f e = absurd (cc)
whole_by false o p q n f e = absurd (cc)

broken_by : (b : Bool) (o p : Option ℕ) (j : ℕ) → ((i : ℕ) → o ≡ Some i → p ≡ Some i) → (if b then option_map suc o else Some 0) ≡ Some j → (if b then option_map suc p else Some 0) ≡ Some j
broken_by true None p j f e = absurd (cc)
broken_by true (Some i) p j f e = ap (option_map suc) (f i refl) ∙ e
broken_by false o p j f e = e

-- the first that is not whole stays the first before more numbers
pub first_broken-append_broken : (xs ys : List Num) (j : ℕ) → first_broken xs ≡ Some j → first_broken (xs ++ ys) ≡ Some j
first_broken-append_broken [] ys j e = absurd (cc)
first_broken-append_broken (x ∷ xs) ys j e = broken_by (is_whole x) (first_broken xs) (first_broken (xs ++ ys)) j (λ i h. first_broken-append_broken xs ys i h) e

-- whole numbers in front only move the first that is not
pub first_broken-append : (xs ys : List Num) → first_broken xs ≡ None → first_broken (xs ++ ys) ≡ option_map (λ i. length xs + i) (first_broken ys)
first_broken-append [] ys e = sym (map_zero (first_broken ys))
first_broken-append (x ∷ xs) ys e = whole_by (is_whole x) (first_broken xs) (first_broken (xs ++ ys)) (first_broken ys) (length xs) (first_broken-append xs ys) e

-- a part of them is whole
pub is_left_step : (count left more : ℕ) (all xs rest : List Num) → (first_broken xs ≡ None) × (more ≡ left - length xs) → IsLeft count left all (xs ++ rest) → IsLeft count more all rest
is_left_step count left more all xs rest h w = record {
  taken = w.taken + length xs;
  left_is = omega (arith, h.1, w.left_is);
  first = sym (map_more w.taken (length xs) (first_broken rest)) ∙ ap (option_map (λ i. w.taken + i)) (sym (first_broken-append xs rest h.0)) ∙ w.first;
  length_is = omega (arith, w.length_is, length-append xs rest);
}

-- a part of them is not
pub is_left_stop : (count left more : ℕ) (all xs rest : List Num) → (i : ℕ) × (first_broken xs ≡ Some i) × (more ≡ left - i) → IsLeft count left all (xs ++ rest) → (i : ℕ) × (first_broken all ≡ Some i) × (more ≡ count - i)
is_left_stop count left more all xs rest h w =
    (w.taken + h.0, sym w.first ∙ ap (option_map (λ i. w.taken + i)) (first_broken-append_broken xs rest h.0 h.1), omega (arith, h.2, w.left_is))

-- all of them are whole
pub is_left_end : (count left : ℕ) (all : List Num) → IsLeft count left all [] → (first_broken all ≡ None) × (left ≡ count - length all)
is_left_end count left all w = (sym w.first, omega (arith, w.left_is, w.length_is))

parts_by : (b : Bool) (o p : Option ℕ) (P : Type 0) → (p ≡ None → (o ≡ None) × P) → (if b then option_map suc p else Some 0) ≡ None → ((if b then option_map suc o else Some 0) ≡ None) × P
parts_by true o None P f e = let g = f refl in (ap (option_map suc) g.0, g.1)
parts_by true o (Some i) P f e = absurd (cc)
parts_by false o p P f e = absurd (cc)

-- where all are whole, each part is
pub first_broken_parts : (xs ys : List Num) → first_broken (xs ++ ys) ≡ None → (first_broken xs ≡ None) × (first_broken ys ≡ None)
first_broken_parts [] ys e = (refl, e)
first_broken_parts (x ∷ xs) ys e = parts_by (is_whole x) (first_broken xs) (first_broken (xs ++ ys)) (first_broken ys ≡ None) (first_broken_parts xs ys) e

pub ruleset left_to_take = (is_left_start, is_left_step, is_left_stop, is_left_end)

below_by : (b : Bool) (o : Option ℕ) (n i : ℕ) → ((j : ℕ) → o ≡ Some j → j < n) → (if b then option_map suc o else Some 0) ≡ Some i → i < suc n
below_by true None n i h e = absurd (cc)
below_by true (Some j) n i h e = let same : suc j ≡ i = cc in omega (arith, h j refl, same)
below_by false o n i h e = let same : 0 ≡ i = cc in omega (arith, same)

-- the first that is not whole is among the numbers
pub first_broken_below : (ns : List Num) (i : ℕ) → first_broken ns ≡ Some i → i < length ns
first_broken_below [] i e = absurd (cc)
first_broken_below (n ∷ ns) i e = below_by (is_whole n) (first_broken ns) (length ns) i (λ j f. first_broken_below ns j f) e
