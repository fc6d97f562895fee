-- How many of a list's elements from a place on pass a test, and whether one does, after one was added or changed.
use Rattle.std.proofs.Common.{◌≡◌, ℕ, zero, suc, ◌+◌, ◌≤◌, ◌||◌, ◌&&◌, ◌==◌, Bool, true, false, cond, List, [], ◌∷◌, ◌++◌, length, drop, Some, None, arith, refl, ap, sym, ◌∙◌}
use Rattle.std.specs.Prelude.{count_by, slice_get, filter, not}
use Rattle.std.specs.List.{slice_set, list_any, list_all}
use Rattle.std.proofs.lemmas.List.Sums.{sum_by-cons}

some_inner : {A : Type 0} (x y : A) → Some x ≡ Some y → x ≡ y
some_inner x y e = cc

none_some : {A : Type 0} (x : A) → None ≡ Some x → ⊥
none_some x h = cc

-- the same count by recursion
abbrev one_if : Bool → ℕ
one_if b = cond b 1 0

tally : {A : Type 0} → (A → Bool) → List A → ℕ
tally p [] = 0
tally p (x ∷ xs) = one_if (p x) + tally p xs

count_is_tally : {A : Type 0} (p : A → Bool) (xs : List A) → count_by p xs ≡ tally p xs
unfolding tally
count_is_tally p [] = refl
count_is_tally p (x ∷ xs) = sum_by-cons (λ y. cond (p y) 1 0) x xs ∙ ap (λ n. one_if (p x) + n) (count_is_tally p xs)

-- ---- one more at the end

tally_push : {A : Type 0} (p : A → Bool) (xs : List A) (x : A) → tally p (xs ++ x ∷ []) ≡ tally p xs + one_if (p x)
unfolding tally
tally_push p [] x = omega arith
tally_push p (y ∷ xs) x = let h : tally p (xs ++ x ∷ []) ≡ tally p xs + one_if (p x) = tally_push p xs x in omega arith

drop_push : {A : Type 0} (xs : List A) (x : A) (k : ℕ) → k ≤ length xs → drop k (xs ++ x ∷ []) ≡ drop k xs ++ x ∷ []
drop_push xs x zero le = refl
drop_push [] x (suc k) le = absurd (omega arith)
drop_push (y ∷ xs) x (suc k) le = drop_push xs x k (omega arith)

-- past the end there is nothing
drop_past : {A : Type 0} (xs : List A) (k : ℕ) → length xs ≤ k → drop k xs ≡ []
drop_past [] zero le = refl
drop_past [] (suc k) le = refl
drop_past (y ∷ xs) zero le = absurd (omega arith)
drop_past (y ∷ xs) (suc k) le = drop_past xs k (omega arith)

-- one that passes
pub count_push_more : {A : Type 0} (p : A → Bool) (xs : List A) (x : A) (k : ℕ) → k ≤ length xs → p x ≡ true
    → count_by p (drop k (xs ++ x ∷ [])) ≡ count_by p (drop k xs) + 1
count_push_more p xs x k le e =
    let a : count_by p (drop k (xs ++ x ∷ [])) ≡ tally p (drop k xs ++ x ∷ []) = ap (count_by p) (drop_push xs x k le) ∙ count_is_tally p (drop k xs ++ x ∷ []) in
    let b : tally p (drop k xs ++ x ∷ []) ≡ tally p (drop k xs) + one_if (p x) = tally_push p (drop k xs) x in
    let d : one_if (p x) ≡ 1 = ap one_if e in
    let f : count_by p (drop k xs) ≡ tally p (drop k xs) = count_is_tally p (drop k xs) in
    omega arith

-- one that does not
tally_push_same : {A : Type 0} (p : A → Bool) (xs : List A) (x : A) (k : ℕ) → p x ≡ false → tally p (drop k (xs ++ x ∷ [])) ≡ tally p (drop k xs)
unfolding tally
tally_push_same p [] x zero e = rw e refl
tally_push_same p [] x (suc zero) e = refl
tally_push_same p [] x (suc (suc k)) e = refl
tally_push_same p (y ∷ xs) x zero e = ap (λ n. one_if (p y) + n) (tally_push_same p xs x zero e)
tally_push_same p (y ∷ xs) x (suc k) e = tally_push_same p xs x k e

pub count_push_same : {A : Type 0} (p : A → Bool) (xs : List A) (x : A) (k : ℕ) → p x ≡ false → count_by p (drop k (xs ++ x ∷ [])) ≡ count_by p (drop k xs)
count_push_same p xs x k e =
    count_is_tally p (drop k (xs ++ x ∷ [])) ∙ tally_push_same p xs x k e ∙ sym (count_is_tally p (drop k xs))

pub any_push_same : {A : Type 0} (p : A → Bool) (xs : List A) (x : A) (k : ℕ) → p x ≡ false → list_any p (drop k (xs ++ x ∷ [])) ≡ list_any p (drop k xs)
any_push_same p [] x zero e = rw e refl
any_push_same p [] x (suc zero) e = refl
any_push_same p [] x (suc (suc k)) e = refl
any_push_same p (y ∷ xs) x zero e = ap (λ b. p y || b) (any_push_same p xs x zero e)
any_push_same p (y ∷ xs) x (suc k) e = any_push_same p xs x k e

-- ---- one in the place of another

tally_set_same : {A : Type 0} (p : A → Bool) (xs : List A) (n : ℕ) (new old : A) (k : ℕ) → slice_get xs n ≡ Some old → p new ≡ p old
    → tally p (drop k (slice_set xs n new)) ≡ tally p (drop k xs)
unfolding tally
tally_set_same p [] n new old k there e = absurd (none_some old there)
tally_set_same p (x ∷ xs) zero new old zero there e =
    let h : p new ≡ p x = e ∙ ap p (sym (some_inner x old there)) in
    ap (λ b. one_if b + tally p xs) h
tally_set_same p (x ∷ xs) zero new old (suc k) there e = refl
tally_set_same p (x ∷ xs) (suc n) new old zero there e = ap (λ m. one_if (p x) + m) (tally_set_same p xs n new old zero there e)
tally_set_same p (x ∷ xs) (suc n) new old (suc k) there e = tally_set_same p xs n new old k there e

pub count_set_same : {A : Type 0} (p : A → Bool) (xs : List A) (n : ℕ) (new old : A) (k : ℕ) → slice_get xs n ≡ Some old → p new ≡ p old
    → count_by p (drop k (slice_set xs n new)) ≡ count_by p (drop k xs)
count_set_same p xs n new old k there e =
    count_is_tally p (drop k (slice_set xs n new)) ∙ tally_set_same p xs n new old k there e ∙ sym (count_is_tally p (drop k xs))

tally_set_less : {A : Type 0} (p : A → Bool) (xs : List A) (n : ℕ) (new old : A) (k : ℕ) → k ≤ n → slice_get xs n ≡ Some old → p old ≡ true → p new ≡ false
    → tally p (drop k (slice_set xs n new)) + 1 ≡ tally p (drop k xs)
unfolding tally
tally_set_less p [] n new old k le there e f = absurd (none_some old there)
tally_set_less p (x ∷ xs) zero new old zero le there e f =
    let a : one_if (p x) ≡ 1 = ap (λ y. one_if (p y)) (some_inner x old there) ∙ ap one_if e in
    let b : one_if (p new) ≡ 0 = ap one_if f in
    omega arith
tally_set_less p (x ∷ xs) zero new old (suc k) le there e f = absurd (omega arith)
tally_set_less p (x ∷ xs) (suc n) new old zero le there e f =
    let h : tally p (slice_set xs n new) + 1 ≡ tally p xs = tally_set_less p xs n new old zero (omega arith) there e f in
    omega arith
tally_set_less p (x ∷ xs) (suc n) new old (suc k) le there e f = tally_set_less p xs n new old k (omega arith) there e f

pub count_set_less : {A : Type 0} (p : A → Bool) (xs : List A) (n : ℕ) (new old : A) (k : ℕ) → k ≤ n → slice_get xs n ≡ Some old → p old ≡ true → p new ≡ false
    → count_by p (drop k (slice_set xs n new)) + 1 ≡ count_by p (drop k xs)
count_set_less p xs n new old k le there e f =
    let a : count_by p (drop k (slice_set xs n new)) ≡ tally p (drop k (slice_set xs n new)) = count_is_tally p (drop k (slice_set xs n new)) in
    let b : count_by p (drop k xs) ≡ tally p (drop k xs) = count_is_tally p (drop k xs) in
    let h : tally p (drop k (slice_set xs n new)) + 1 ≡ tally p (drop k xs) = tally_set_less p xs n new old k le there e f in
    omega arith

pub any_set_same : {A : Type 0} (p : A → Bool) (xs : List A) (n : ℕ) (new old : A) (k : ℕ) → slice_get xs n ≡ Some old → p new ≡ p old
    → list_any p (drop k (slice_set xs n new)) ≡ list_any p (drop k xs)
any_set_same p [] n new old k there e = absurd (none_some old there)
any_set_same p (x ∷ xs) zero new old zero there e =
    let h : p new ≡ p x = e ∙ ap p (sym (some_inner x old there)) in
    ap (λ b. b || list_any p xs) h
any_set_same p (x ∷ xs) zero new old (suc k) there e = refl
any_set_same p (x ∷ xs) (suc n) new old zero there e = ap (λ b. p x || b) (any_set_same p xs n new old zero there e)
any_set_same p (x ∷ xs) (suc n) new old (suc k) there e = any_set_same p xs n new old k there e

or_move : (a b c : Bool) → (a || (b || c)) ≡ ((a || b) || c)
or_move true b c = refl
or_move false b c = refl

or_turn : (a b : Bool) → (a || b) ≡ ((false || b) || a)
or_turn true true = refl
or_turn true false = refl
or_turn false true = refl
or_turn false false = refl

-- one that did not pass
pub any_set_or : {A : Type 0} (p : A → Bool) (xs : List A) (n : ℕ) (new old : A) (k : ℕ) → k ≤ n → slice_get xs n ≡ Some old → p old ≡ false
    → list_any p (drop k (slice_set xs n new)) ≡ (list_any p (drop k xs) || p new)
any_set_or p [] n new old k le there e = absurd (none_some old there)
any_set_or p (x ∷ xs) zero new old zero le there e =
    let h : p x ≡ false = ap p (some_inner x old there) ∙ e in
    or_turn (p new) (list_any p xs) ∙ ap (λ b. (b || list_any p xs) || p new) (sym h)
any_set_or p (x ∷ xs) zero new old (suc k) le there e = absurd (omega arith)
any_set_or p (x ∷ xs) (suc n) new old zero le there e =
    ap (λ b. p x || b) (any_set_or p xs n new old zero (omega arith) there e) ∙ or_move (p x) (list_any p xs) (p new)
any_set_or p (x ∷ xs) (suc n) new old (suc k) le there e = any_set_or p xs n new old k (omega arith) there e

-- ---- none from the end on

pub count_past : {A : Type 0} (p : A → Bool) (xs : List A) (k : ℕ) → length xs ≤ k → count_by p (drop k xs) ≡ 0
count_past p xs k le = ap (count_by p) (drop_past xs k le)

pub any_past : {A : Type 0} (p : A → Bool) (xs : List A) (k : ℕ) → length xs ≤ k → list_any p (drop k xs) ≡ false
any_past p xs k le = ap (list_any p) (drop_past xs k le)

-- ---- all of those that pass one test pass another one where none passes the first and not the other

tally_none : {A : Type 0} (p q : A → Bool) (xs : List A) → list_all q (filter p xs) ≡ (tally (λ x. p x && not (q x)) xs == 0)
unfolding tally
tally_none p q [] = refl
tally_none p q (x ∷ xs) = all_of (p x) ∙ by (p x) (q x) (tally_none p q xs)
  where
    far : (n : ℕ) → false ≡ (1 + n == 0)
    far n = grind arith

    near : (n : ℕ) → (n == 0) ≡ (0 + n == 0)
    near n = grind arith

    all_of : (a : Bool) → list_all q (cond a (x ∷ filter p xs) (filter p xs)) ≡ cond a (q x && list_all q (filter p xs)) (list_all q (filter p xs))
    all_of true = refl
    all_of false = refl

    by : (a b : Bool) → list_all q (filter p xs) ≡ (tally (λ y. p y && not (q y)) xs == 0)
        → cond a (b && list_all q (filter p xs)) (list_all q (filter p xs)) ≡ (one_if (a && not b) + tally (λ y. p y && not (q y)) xs == 0)
    by true true h = h ∙ near (tally (λ y. p y && not (q y)) xs)
    by true false h = far (tally (λ y. p y && not (q y)) xs)
    by false true h = h ∙ near (tally (λ y. p y && not (q y)) xs)
    by false false h = h ∙ near (tally (λ y. p y && not (q y)) xs)

pub all_or_count : {A : Type 0} (p q : A → Bool) (xs : List A) → list_all q (filter p xs) ≡ (count_by (λ x. p x && not (q x)) xs == 0)
all_or_count p q xs = tally_none p q xs ∙ ap (λ n. n == 0) (sym (count_is_tally (λ x. p x && not (q x)) xs))
