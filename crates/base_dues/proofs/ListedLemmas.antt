-- The rising list of moments kept by number.
use Rattle.std.proofs.Common.{◌≡◌, inl, inr, ℕ, zero, suc, ◌+◌, ◌<◌, ◌≤◌, Bool, true, false, cond, Option, Some, None, List, [], ◌∷◌, ◌++◌, length, set, get_or, arith, refl, sym, ap, ◌∙◌, get_or-set_same, get_or-set_other}
use Rattle.std.specs.Prelude.{◌==◌, slice_get, count_by, is_some}
use Rattle.std.specs.Option.{option_and_then}
use Rattle.std.proofs.lemmas.Bool.{cases_eq, eq-eqb, ne_eqb, cond-true, cond-false}
use Rattle.std.proofs.lemmas.List.{get_or_past}
use Rattle.std.proofs.lemmas.List.Sums.{sum_by-set, sum_by-cons}
use Rattle.base_dues.specs.Pairs.{Due, comes_first, at, IsQueue, with_due, without, rising, pairs_from, listed}
use Rattle.base_dues.proofs.PairLemmas.{at-with_due, at-without, at-rising, at-pairs_from, EachOnce-pairs_from, IsQueue-rising, IsQueue-with_due, IsQueue-without, dues_are_one}

get_is : (ms : List (Option ℕ)) (k : ℕ) → option_and_then (λ moment. moment) (slice_get ms k) ≡ get_or ms k None
get_is [] k = refl
get_is (m ∷ ms) zero = refl
get_is (m ∷ ms) (suc k) = get_is ms k

pub at-listed : (ms : List (Option ℕ)) (k : ℕ) → at (listed ms) k ≡ get_or ms k None
unfolding listed
at-listed ms k =
    at-rising (pairs_from (λ _ moment. moment) 0 ms) k (EachOnce-pairs_from (λ _ moment. moment) 0 ms)
    ∙ at-pairs_from (λ _ moment. moment) 0 ms k k (omega arith) ∙ get_is ms k

pub IsQueue-listed : (ms : List (Option ℕ)) → IsQueue (listed ms)
unfolding listed
IsQueue-listed ms = IsQueue-rising (pairs_from (λ _ moment. moment) 0 ms) (EachOnce-pairs_from (λ _ moment. moment) 0 ms)

pub listed_nil : (ms : List (Option ℕ)) → ms ≡ [] → listed ms ≡ []
unfolding listed
listed_nil ms e = ap (λ l. rising (pairs_from (λ _ moment. moment) 0 l)) e

pub same_listed : (ms new : List (Option ℕ)) → ((k : ℕ) → get_or new k None ≡ get_or ms k None) → listed new ≡ listed ms
same_listed ms new same = dues_are_one (listed new) (listed ms) (IsQueue-listed new) (IsQueue-listed ms) (λ k. at-listed new k ∙ same k ∙ sym (at-listed ms k))

-- numbers past the end have no moment
pub get_push_none : (ms : List (Option ℕ)) (k : ℕ) → get_or (ms ++ None ∷ []) k None ≡ get_or ms k None
get_push_none [] zero = refl
get_push_none [] (suc k) = refl
get_push_none (m ∷ ms) zero = refl
get_push_none (m ∷ ms) (suc k) = get_push_none ms k

pub listed_push : (ms new : List (Option ℕ)) → new ≡ ms ++ None ∷ [] → listed new ≡ listed ms
listed_push ms new e = ap listed e ∙ same_listed ms (ms ++ None ∷ []) (get_push_none ms)

pub at_past : (ms : List (Option ℕ)) (k : ℕ) → length ms ≤ k → at (listed ms) k ≡ None
at_past ms k past = at-listed ms k ∙ get_or_past ms k None past

-- ---- how many

length-with_due : (ds : List Due) (d : Due) → length (with_due ds d) ≡ suc (length ds)
length-with_due [] d = refl
length-with_due (x ∷ xs) d = by (comes_first x d) (length-with_due xs d)
  where
    by : (b : Bool) → length (with_due xs d) ≡ suc (length xs) → length (cond b (x ∷ with_due xs d) (d ∷ x ∷ xs)) ≡ suc (suc (length xs))
    by true e = ap (λ n. suc n) e
    by false e = refl

length-rising : (ds : List Due) → length (rising ds) ≡ length ds
length-rising [] = refl
length-rising (d ∷ ds) = length-with_due (rising ds) d ∙ ap (λ n. suc n) (length-rising ds)

some_more : (m : ℕ) (ms : List (Option ℕ)) → count_by is_some (Some m ∷ ms) ≡ 1 + count_by is_some ms
some_more m ms = sum_by-cons (λ o. cond (is_some o) 1 0) (Some m) ms

length-pairs : (n : ℕ) (ms : List (Option ℕ)) → length (pairs_from (λ _ moment. moment) n ms) ≡ count_by is_some ms
length-pairs n [] = refl
length-pairs n (None ∷ ms) = let e = length-pairs (suc n) ms in omega arith
length-pairs n (Some m ∷ ms) = let e = length-pairs (suc n) ms in omega (arith, some_more m ms)

pub length-listed : (ms : List (Option ℕ)) → length (listed ms) ≡ count_by is_some ms
unfolding listed
length-listed ms = length-rising (pairs_from (λ _ moment. moment) 0 ms) ∙ length-pairs 0 ms

-- one number has another moment
pub count_put : (ms : List (Option ℕ)) (n : ℕ) (old new : Option ℕ) → n < length ms → old ≡ get_or ms n None
    → count_by is_some (set ms n new) + cond (is_some old) 1 0 ≡ count_by is_some ms + cond (is_some new) 1 0
count_put ms n old new lt e =
    ap (λ o. count_by is_some (set ms n new) + cond (is_some o) 1 0) e ∙ sum_by-set (λ o. cond (is_some o) 1 0) ms n new None lt

pub count_push : (ms : List (Option ℕ)) → count_by is_some (ms ++ None ∷ []) ≡ count_by is_some ms
count_push [] = refl
count_push (None ∷ ms) = let e = count_push ms in omega arith
count_push (Some m ∷ ms) = let e = count_push ms in omega (arith, some_more m ms, some_more m (ms ++ None ∷ []))

-- no number has a moment
pub none_counted : (ms : List (Option ℕ)) (k : ℕ) → count_by is_some ms ≡ 0 → get_or ms k None ≡ None
none_counted [] k e = refl
none_counted (Some m ∷ ms) k e = absurd (omega (arith, some_more m ms))
none_counted (None ∷ ms) zero e = refl
none_counted (None ∷ ms) (suc k) e = none_counted ms k e

-- ---- one number gets another moment

pub at_put : (ms : List (Option ℕ)) (n k : ℕ) (new : Option ℕ) → n < length ms → at (listed (set ms n new)) k ≡ cond (k == n) new (at (listed ms) k)
at_put ms n k new lt = at-listed (set ms n new) k ∙ elim (cases_eq k n) [
  | inl same ↦ ap (λ j. get_or (set ms n new) j None) same ∙ get_or-set_same ms n new None lt ∙ sym (cond-true (k == n) new (at (listed ms) k) (eq-eqb k n same))
  | inr other ↦ get_or-set_other ms n k new None other ∙ sym (at-listed ms k) ∙ sym (cond-false (k == n) new (at (listed ms) k) (ne_eqb k n other))
]

cond_cond : (b : Bool) (x y z : Option ℕ) → cond b x (cond b y z) ≡ cond b x z
cond_cond true x y z = refl
cond_cond false x y z = refl

pub inserted : (old new : List Due) (m n : ℕ) → IsQueue old → IsQueue new → ((k : ℕ) → at new k ≡ cond (k == n) (Some m) (at old k)) → new ≡ with_due (without old n) (m, n)
inserted old new m n qo qn each =
    let absent : at (without old n) n ≡ None = at-without old n n ∙ cond-true (n == n) None (at old n) (eq-eqb n n refl) in
    dues_are_one new (with_due (without old n) (m, n)) qn (IsQueue-with_due (without old n) (m, n) (IsQueue-without old n qo) absent)
    (λ k. each k ∙ sym (at-with_due (without old n) (m, n) k absent ∙ ap (λ o. cond (k == n) (Some m) o) (at-without old n k) ∙ cond_cond (k == n) (Some m) None (at old k)))

pub removed : (old new : List Due) (n : ℕ) → IsQueue old → IsQueue new → ((k : ℕ) → at new k ≡ cond (k == n) None (at old k)) → new ≡ without old n
removed old new n qo qn each = dues_are_one new (without old n) qn (IsQueue-without old n qo) (λ k. each k ∙ sym (at-without old n k))

-- a number that is not there
pub absent_each : (ds : List Due) (n k : ℕ) → at ds n ≡ None → at ds k ≡ cond (k == n) None (at ds k)
absent_each ds n k absent = elim (cases_eq k n) [
  | inl same ↦ ap (λ j. at ds j) same ∙ absent ∙ sym (cond-true (k == n) None (at ds k) (eq-eqb k n same))
  | inr other ↦ sym (cond-false (k == n) None (at ds k) (ne_eqb k n other))
]

-- ---- as the pairs that a function of the number gives

-- a rising list in which each number has the moment that the function gives for its element
pub rising_is : {A : Type 0} (f : ℕ → A → Option ℕ) (xs : List A) (ds : List Due) → IsQueue ds → ((k : ℕ) → at ds k ≡ option_and_then (f k) (slice_get xs k)) → ds ≡ rising (pairs_from f 0 xs)
rising_is f xs ds q each =
    let once = EachOnce-pairs_from f 0 xs in
    dues_are_one ds (rising (pairs_from f 0 xs)) q (IsQueue-rising (pairs_from f 0 xs) once)
    (λ k. each k ∙ sym (at-rising (pairs_from f 0 xs) k once ∙ at-pairs_from f 0 xs k k (omega arith)))

-- the moment of each number in the rising list of such pairs
pub at-rising_pairs : {A : Type 0} (f : ℕ → A → Option ℕ) (xs : List A) (k : ℕ) → at (rising (pairs_from f 0 xs)) k ≡ option_and_then (f k) (slice_get xs k)
at-rising_pairs f xs k = at-rising (pairs_from f 0 xs) k (EachOnce-pairs_from f 0 xs) ∙ at-pairs_from f 0 xs k k (omega arith)
