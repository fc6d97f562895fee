-- Looking for a name among items in the order of their names.
use Rattle.std.proofs.Common.{◌≡◌, ◌⊎◌, inl, inr, ℕ, zero, suc, ◌+◌, ◌<◌, Bool, true, false, cond, List, [], ◌∷◌, length, get_or, Option, Some, None, refl, sym, ◌∙◌, ap, arith, nat_cmp}
use Rattle.std.specs.Prelude.{find}
use Rattle.std.specs.List.{AllByRecursion, AllWithin}
use Rattle.std.proofs.lemmas.Bool.{cases_lt}
use Rattle.std.specs.List.Sorted.{IsNonDecreasingBy}
use Rattle.std.specs.Str.{bytes_eq}
use Rattle.std.specs.Cmp.Lexicographic.{slice_cmp, nat_list_cmp_total}
use Rattle.std.specs.Ordering.{is_lt, is_eq, ordering_reverse, ordering_index}
use Rattle.std.specs.declared.cmp.Ordering.TheVariants.{Less, Equal, Greater}
use Rattle.std.proofs.lemmas.Map.Text.{is_eq-slice_cmp}
use Rattle.std.proofs.lemmas.List.Sorted.{searchable_from_sorted}
use Rattle.cacao_vars.specs.declared.declarations.Var.{Var}
use Rattle.cacao_vars.specs.Declarations.{IsBefore, IsInNameOrder}

at_once : {X : Type 0} (b : Bool) (x : X) (rest : Option X) → b ≡ true → cond b (Some x) rest ≡ Some x
at_once b x rest e = rw e refl

later_on : {X : Type 0} (b : Bool) (x : X) (rest : Option X) (o : Option X) → b ≡ false → rest ≡ o → cond b (Some x) rest ≡ o
later_on b x rest o e f = rw (e, f) refl

pub same_name : (a name : List ℕ) → slice_cmp nat_cmp a name ≡ Equal → bytes_eq a name ≡ true
same_name a name same = sym (is_eq-slice_cmp a name) ∙ ap is_eq same

other_name : (a name : List ℕ) → (slice_cmp nat_cmp a name ≡ Less) ⊎ (slice_cmp nat_cmp a name ≡ Greater) → bytes_eq a name ≡ false
other_name a name (inl e) = sym (is_eq-slice_cmp a name) ∙ ap is_eq e
other_name a name (inr e) = sym (is_eq-slice_cmp a name) ∙ ap is_eq e

-- the name of a later item is not that of an earlier one
apart : (a b name : List ℕ) → IsBefore a b → slice_cmp nat_cmp b name ≡ Equal → bytes_eq a name ≡ false
apart a b name before same =
    let ba : slice_cmp nat_cmp b a ≡ Greater = nat_list_cmp_total.antisymm b a ∙ ap ordering_reverse before in
    let ka : slice_cmp nat_cmp name a ≡ Greater = sym (nat_list_cmp_total.congr b name a same) ∙ ba in
    other_name a name (inl (nat_list_cmp_total.antisymm a name ∙ ap ordering_reverse ka))

not_lower : (a b : List ℕ) → IsBefore a b → is_lt (slice_cmp nat_cmp b a) ≡ false
not_lower a b before = ap is_lt (nat_list_cmp_total.antisymm b a ∙ ap ordering_reverse before)

module _ {X : Type 0} (key : X → List ℕ) where
  -- each name comes before all later ones
  abbrev pub Rises : List X → Type 0
  Rises [] = Unit {0}
  Rises (x ∷ xs) = AllByRecursion (λ later. IsBefore (key x) (key later)) xs × Rises xs

  later_all : (a : List ℕ) (xs : List X) (i : ℕ) (d : X) → AllByRecursion (λ later. IsBefore a (key later)) xs → i < length xs → IsBefore a (key (get_or xs i d))
  later_all a [] i d all lt = absurd (omega arith)
  later_all a (x ∷ xs) zero d all lt = all.0
  later_all a (x ∷ xs) (suc i) d all lt = later_all a xs i d all.1 (omega arith)

  before_at : (xs : List X) (i j : ℕ) (d : X) → Rises xs → i < j → j < length xs → IsBefore (key (get_or xs i d)) (key (get_or xs j d))
  before_at [] i j d order lt in' = absurd (omega arith)
  before_at (x ∷ xs) zero zero d order lt in' = absurd (omega arith)
  before_at (x ∷ xs) zero (suc j) d order lt in' = later_all (key x) xs j d order.0 (omega arith)
  before_at (x ∷ xs) (suc i) zero d order lt in' = absurd (omega arith)
  before_at (x ∷ xs) (suc i) (suc j) d order lt in' = before_at xs i j d order.1 (omega arith) (omega arith)

  pub searchable : (xs : List X) (name : List ℕ) → Rises xs → IsNonDecreasingBy (λ (x : X). ordering_index (slice_cmp nat_cmp (key x) name)) xs
  searchable xs name order = searchable_from_sorted nat_list_cmp_total key xs name (λ k d low high. not_lower (key (get_or xs k d)) (key (get_or xs (k + 1) d)) (before_at xs k (k + 1) d order (omega arith) high))

  module _ (name : List ℕ) where
    -- the answer of a binary search: no item has the name, or none before this one
    pub none_has : (xs : List X) (i : ℕ) (d : X) → AllWithin (λ (x : X). slice_cmp nat_cmp (key x) name ≡ Less) xs 0 i → AllWithin (λ (x : X). slice_cmp nat_cmp (key x) name ≡ Greater) xs i (length xs)
        → (k : ℕ) → k < length xs → bytes_eq (key (get_or xs k d)) name ≡ false
    none_has xs i d low high k lt = elim (cases_lt k i) [
      | inl below ↦ other_name (key (get_or xs k d)) name (inl (low k d (omega arith) below))
      | inr above ↦ other_name (key (get_or xs k d)) name (inr (high k d above lt))
    ]

    pub none_before : (xs : List X) (i : ℕ) (d : X) → Rises xs → i < length xs → slice_cmp nat_cmp (key (get_or xs i d)) name ≡ Equal → (k : ℕ) → k < i → bytes_eq (key (get_or xs k d)) name ≡ false
    none_before xs i d order lt same k below = apart (key (get_or xs k d)) (key (get_or xs i d)) name (before_at xs k i d order below lt) same

    found_none : (xs : List X) (d : X) → ((k : ℕ) → k < length xs → bytes_eq (key (get_or xs k d)) name ≡ false) → find (λ (x : X). bytes_eq (key x) name) xs ≡ None
    found_none [] d h = refl
    found_none (x ∷ xs) d h = later_on (bytes_eq (key x) name) x (find (λ (x : X). bytes_eq (key x) name) xs) None (h 0 (omega arith)) (found_none xs d (λ k lt. h (suc k) (omega arith)))

    found_at : (xs : List X) (i : ℕ) (d : X) → i < length xs → ((k : ℕ) → k < i → bytes_eq (key (get_or xs k d)) name ≡ false) → bytes_eq (key (get_or xs i d)) name ≡ true
        → find (λ (x : X). bytes_eq (key x) name) xs ≡ Some (get_or xs i d)
    found_at [] i d lt before here = absurd (omega arith)
    found_at (x ∷ xs) zero d lt before here = at_once (bytes_eq (key x) name) x (find (λ (x : X). bytes_eq (key x) name) xs) here
    found_at (x ∷ xs) (suc i) d lt before here =
        later_on (bytes_eq (key x) name) x (find (λ (x : X). bytes_eq (key x) name) xs) (Some (get_or xs i d)) (before 0 (omega arith)) (found_at xs i d (omega arith) (λ k below. before (suc k) (omega arith)) here)

    pub searched_none : (xs : List X) (i : ℕ) → AllWithin (λ (x : X). slice_cmp nat_cmp (key x) name ≡ Less) xs 0 i → AllWithin (λ (x : X). slice_cmp nat_cmp (key x) name ≡ Greater) xs i (length xs)
        → find (λ (x : X). bytes_eq (key x) name) xs ≡ None
    searched_none [] i low high = refl
    searched_none (x ∷ xs) i low high = found_none (x ∷ xs) x (none_has (x ∷ xs) i x low high)

    pub searched_some : (xs : List X) (i : ℕ) (d : X) → Rises xs → i < length xs → ((d : X) → slice_cmp nat_cmp (key (get_or xs i d)) name ≡ Equal) → find (λ (x : X). bytes_eq (key x) name) xs ≡ Some (get_or xs i d)
    searched_some xs i d order lt same = found_at xs i d lt (none_before xs i d order lt (same d)) (same_name (key (get_or xs i d)) name (same d))

-- declarations in order
pub vars_rise : (vars : List Var) → IsInNameOrder vars → Rises (λ (v : Var). v.name) vars
vars_rise [] order = tt
vars_rise (v ∷ vars) order = (order.0, vars_rise vars order.1)
