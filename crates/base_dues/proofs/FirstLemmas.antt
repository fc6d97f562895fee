-- The least pair, and the least number by a moment.
use Rattle.std.proofs.Common.{◌≡◌, inl, inr, ℕ, ◌<◌, ◌≤◌, min, Bool, true, false, cond, Option, Some, None, List, [], ◌∷◌, arith, refl, sym, ap, ◌∙◌}
use Rattle.std.specs.Prelude.{slice_get, nat_le}
use Rattle.std.specs.Option.{option_map_or}
use Rattle.std.proofs.lemmas.Bool.{cases_eq, cases_order, false≢true}
use Rattle.std.proofs.lemmas.Bool.Decides.{nat_tests}
use Rattle.std.proofs.lemmas.Option.{none-some, same_Some}
use Rattle.base_dues.specs.Pairs.{Due, comes_first, Rises, at, EachOnce, IsQueue, is_by, least_by, IsFirstBy}
use Rattle.base_dues.proofs.PairLemmas.{at_here, at_other, all_at}

-- ---- the least number by a moment

one_first : (t : ℕ) (f : ℕ → Option ℕ) (o p : Option ℕ) → IsFirstBy t f o → IsFirstBy t f p → o ≡ p
one_first t f None None a b = refl
one_first t f None (Some n) a b = absurd (false≢true (sym (a n) ∙ b.0))
one_first t f (Some m) None a b = absurd (false≢true (sym (b m) ∙ a.0))
one_first t f (Some m) (Some n) a b = elim (cases_order m n) [
  | inl same ↦ ap (λ k. Some k) same
  | inr apart ↦ elim apart [ inl less ↦ absurd (false≢true (sym (b.1 m less) ∙ a.0)) | inr more ↦ absurd (false≢true (sym (a.1 n more) ∙ b.0)) ]
]

first_same : (t : ℕ) (f g : ℕ → Option ℕ) (o : Option ℕ) → ((k : ℕ) → is_by t (g k) ≡ is_by t (f k)) → IsFirstBy t f o → IsFirstBy t g o
first_same t f g None same h = λ n. same n ∙ h n
first_same t f g (Some n) same h = (same n ∙ h.0, λ k lt. same k ∙ h.1 k lt)

-- a pair that comes too late
by_late : (t : ℕ) (d : Due) (ds : List Due) → at ds d.1 ≡ None → nat_le d.0 t ≡ false → (k : ℕ) → is_by t (at (d ∷ ds) k) ≡ is_by t (at ds k)
by_late t d ds absent late k = elim (cases_eq k d.1) [
  | inl same ↦ ap (λ o. is_by t o) (at_here d ds k same) ∙ late ∙ sym (ap (λ o. is_by t o) (ap (λ j. at ds j) same ∙ absent))
  | inr other ↦ ap (λ o. is_by t o) (at_other d ds k other)
]

-- a pair in time, before the first of the others, or the only one
by_here : (t : ℕ) (d : Due) (ds : List Due) → nat_le d.0 t ≡ true → ((k : ℕ) → k < d.1 → is_by t (at ds k) ≡ false) → IsFirstBy t (at (d ∷ ds)) (Some d.1)
by_here t d ds early none =
    (ap (λ o. is_by t o) (at_here d ds d.1 refl) ∙ early, λ k lt. ap (λ o. is_by t o) (at_other d ds k (omega arith)) ∙ none k lt)

-- a pair in time behind the first of the others
by_there : (t : ℕ) (d : Due) (ds : List Due) (n : ℕ) → n < d.1 → IsFirstBy t (at ds) (Some n) → IsFirstBy t (at (d ∷ ds)) (Some n)
by_there t d ds n lt h =
    (ap (λ o. is_by t o) (at_other d ds n (omega arith)) ∙ h.0, λ k less. ap (λ o. is_by t o) (at_other d ds k (omega arith)) ∙ h.1 k less)

by_early : (t : ℕ) (d : Due) (ds : List Due) (o : Option ℕ) → at ds d.1 ≡ None → nat_le d.0 t ≡ true → IsFirstBy t (at ds) o → IsFirstBy t (at (d ∷ ds)) (Some (option_map_or (min d.1) o d.1))
by_early t d ds None absent early h = by_here t d ds early (λ k lt. h k)
by_early t d ds (Some n) absent early h = elim (cases_order d.1 n) [
  | inl same ↦ absurd (false≢true (sym (ap (λ o. is_by t o) (ap (λ j. at ds j) (sym same) ∙ absent)) ∙ h.0))
  | inr apart ↦ elim apart [
    | inl less ↦ let e : min d.1 n ≡ d.1 = omega arith in rw e (by_here t d ds early (λ k lt. h.1 k (omega arith)))
    | inr more ↦ let e : min d.1 n ≡ n = omega arith in rw e (by_there t d ds n more h)
  ]
]

least_is_first : (t : ℕ) (ds : List Due) → EachOnce ds → IsFirstBy t (at ds) (least_by ds t)
least_is_first t [] once = λ n. refl
least_is_first t (d ∷ ds) once = by (nat_le d.0 t) refl (least_is_first t ds once.1)
  where
    by : (b : Bool) → nat_le d.0 t ≡ b → IsFirstBy t (at ds) (least_by ds t)
        → IsFirstBy t (at (d ∷ ds)) (cond b (Some (option_map_or (min d.1) (least_by ds t) d.1)) (least_by ds t))
    by true early h = by_early t d ds (least_by ds t) once.0 early h
    by false late h = first_same t (at ds) (at (d ∷ ds)) (least_by ds t) (by_late t d ds once.0 late) h

pub first_is_least : (t : ℕ) (ds : List Due) (o : Option ℕ) → IsQueue ds → IsFirstBy t (at ds) o → o ≡ least_by ds t
first_is_least t ds o q h = one_first t (at ds) o (least_by ds t) h (least_is_first t ds q.once)

-- ---- the least pair

pub no_pairs : (ds : List Due) → ((k : ℕ) → at ds k ≡ None) → ds ≡ []
no_pairs [] h = refl
no_pairs (d ∷ ds) h = absurd (none-some d.0 (sym (h d.1) ∙ at_here d ds d.1 refl))

later_not_first : (d : Due) (m n : ℕ) → m ≤ d.0 → (d.1 < n → m < d.0) → comes_first d (m, n) ≡ true → ⊥
later_not_first d m n le lt h = grind (arith, nat_tests)

pub first_pair : (ds : List Due) (m n : ℕ) → Rises ds → at ds n ≡ Some m → ((k l : ℕ) → at ds k ≡ Some l → (m ≤ l) × (k < n → m < l)) → slice_get ds 0 ≡ Some (m, n)
first_pair [] m n h e each = absurd (none-some m e)
first_pair (d ∷ ds) m n h e each = elim (cases_eq n d.1) [
  | inl same ↦
      let k : d.0 ≡ m = same_Some d.0 m (sym (at_here d ds n same) ∙ e) in λ i. Some (k i, sym same i)
  | inr other ↦
      let here = each d.1 d.0 (at_here d ds d.1 refl) in
      absurd (later_not_first d m n here.0 here.1 (all_at (λ x. comes_first d x ≡ true) ds n m h.0 (sym (at_other d ds n other) ∙ e)))
]
