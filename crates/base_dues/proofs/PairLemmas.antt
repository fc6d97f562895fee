-- Rising lists of pairs.
use Rattle.std.proofs.Common.{◌≡◌, inl, inr, ℕ, zero, suc, ◌+◌, ◌<◌, Bool, true, false, not, cond, Option, Some, None, List, [], ◌∷◌, arith, refl, sym, ap, ◌∙◌}
use Rattle.std.specs.Prelude.{◌==◌, slice_get}
use Rattle.std.specs.List.{AllByRecursion}
use Rattle.std.specs.Option.{option_map_or, option_and_then}
use Rattle.std.proofs.lemmas.Bool.{cases_eq, eq-eqb, ne_eqb, cond-true, cond-false}
use Rattle.std.proofs.lemmas.Bool.Decides.{nat_tests}
use Rattle.std.proofs.lemmas.Option.{none-some, same_Some}
use Rattle.base_dues.specs.Pairs.{Due, comes_first, Rises, at, EachOnce, IsQueue, with_due, without, rising, pairs_from}

-- ---- the order

pub first_trans : (a b c : Due) → comes_first a b ≡ true → comes_first b c ≡ true → comes_first a c ≡ true
first_trans a b c h g = grind (arith, nat_tests)

pub first_asym : (a b : Due) → comes_first a b ≡ true → comes_first b a ≡ true → ⊥
first_asym a b h g = grind (arith, nat_tests)

-- of two pairs of different numbers one comes first
first_total : (a b : Due) → comes_first a b ≡ false → (b.1 ≡ a.1 → ⊥) → comes_first b a ≡ true
first_total a b h ne = grind (arith, nat_tests)

-- ---- the moment of a number

pub at_here : (d : Due) (ds : List Due) (n : ℕ) → n ≡ d.1 → at (d ∷ ds) n ≡ Some d.0
at_here d ds n e = cond-true (n == d.1) (Some d.0) (at ds n) (eq-eqb n d.1 e)

pub at_other : (d : Due) (ds : List Due) (n : ℕ) → (n ≡ d.1 → ⊥) → at (d ∷ ds) n ≡ at ds n
at_other d ds n ne = cond-false (n == d.1) (Some d.0) (at ds n) (ne_eqb n d.1 ne)

-- a number that is not in a list
pub absent_parts : (d : Due) (ds : List Due) (n : ℕ) → at (d ∷ ds) n ≡ None → (n ≡ d.1 → ⊥) × (at ds n ≡ None)
absent_parts d ds n h = elim (cases_eq n d.1) [
  | inl same ↦ absurd (none-some d.0 (sym h ∙ at_here d ds n same))
  | inr other ↦ (other, sym (at_other d ds n other) ∙ h)
]

-- what holds of all pairs holds of that of a number
pub all_at : (P : Due → Type 0) (ds : List Due) (n m : ℕ) → AllByRecursion P ds → at ds n ≡ Some m → P (m, n)
all_at P [] n m h e = absurd (none-some m e)
all_at P (d ∷ ds) n m h e = elim (cases_eq n d.1) [
  | inl same ↦ let k : d.0 ≡ m = same_Some d.0 m (sym (at_here d ds n same) ∙ e) in rw (sym k, same) h.0
  | inr other ↦ all_at P ds n m h.1 (sym (at_other d ds n other) ∙ e)
]

-- ---- equal lists

none_at : (d : Due) (ds : List Due) → ((n : ℕ) → at [] n ≡ at (d ∷ ds) n) → ⊥
none_at d ds h = none-some d.0 (h d.1 ∙ at_here d ds d.1 refl)

same_head : (p q : Due) (ps qs : List Due) → Rises (p ∷ ps) → Rises (q ∷ qs) → ((n : ℕ) → at (p ∷ ps) n ≡ at (q ∷ qs) n) → p ≡ q
same_head p q ps qs hp hq same = elim (cases_eq p.1 q.1) [
  | inl number ↦
      let moment : p.0 ≡ q.0 = same_Some p.0 q.0 (sym (at_here p ps p.1 refl) ∙ same p.1 ∙ at_here q qs p.1 number) in
      λ i. (moment i, number i)
  | inr other ↦
      let there : at qs p.1 ≡ Some p.0 = sym (at_other q qs p.1 other) ∙ sym (same p.1) ∙ at_here p ps p.1 refl in
      let back : at ps q.1 ≡ Some q.0 = sym (at_other p ps q.1 (λ e. other (sym e))) ∙ same q.1 ∙ at_here q qs q.1 refl in
      absurd (first_asym p q (all_at (λ e. comes_first p e ≡ true) ps q.1 q.0 hp.0 back) (all_at (λ e. comes_first q e ≡ true) qs p.1 p.0 hq.0 there))
]

same_tail : (p q : Due) (ps qs : List Due) → p ≡ q → EachOnce (p ∷ ps) → EachOnce (q ∷ qs) → ((n : ℕ) → at (p ∷ ps) n ≡ at (q ∷ qs) n) → (n : ℕ) → at ps n ≡ at qs n
same_tail p q ps qs e op oq same n = elim (cases_eq n p.1) [
  | inl here ↦ ap (λ k. at ps k) here ∙ op.0 ∙ sym oq.0 ∙ ap (λ k. at qs k) (sym (here ∙ ap (λ (d : Due). d.1) e))
  | inr other ↦ sym (at_other p ps n other) ∙ same n ∙ at_other q qs n (λ k. other (k ∙ sym (ap (λ (d : Due). d.1) e)))
]

-- two rising lists with the same moments are one
lists_are_one : (ps qs : List Due) → Rises ps → EachOnce ps → Rises qs → EachOnce qs → ((n : ℕ) → at ps n ≡ at qs n) → ps ≡ qs
lists_are_one [] [] rp op rq oq same = refl
lists_are_one [] (q ∷ qs) rp op rq oq same = absurd (none_at q qs same)
lists_are_one (p ∷ ps) [] rp op rq oq same = absurd (none_at p ps (λ n. sym (same n)))
lists_are_one (p ∷ ps) (q ∷ qs) rp op rq oq same =
    let head : p ≡ q = same_head p q ps qs rp rq same in
    let tail : ps ≡ qs = lists_are_one ps qs rp.1 op.1 rq.1 oq.1 (same_tail p q ps qs head op oq same) in
    λ i. head i ∷ tail i

pub dues_are_one : (ps qs : List Due) → IsQueue ps → IsQueue qs → ((n : ℕ) → at ps n ≡ at qs n) → ps ≡ qs
dues_are_one ps qs p q same = lists_are_one ps qs p.rises p.once q.rises q.once same

-- ---- one more pair

with_steps : (n : ℕ) (x d : Due) (r xs : List Due) → at xs d.1 ≡ None → (d.1 ≡ x.1 → ⊥) → at r n ≡ cond (n == d.1) (Some d.0) (at xs n)
    → at (x ∷ r) n ≡ cond (n == d.1) (Some d.0) (at (x ∷ xs) n)
with_steps n x d r xs absent ne ih = elim (cases_eq n x.1) [
  | inl same ↦ at_here x r n same ∙ sym (cond-false (n == d.1) (Some d.0) (at (x ∷ xs) n) (ne_eqb n d.1 (λ e. ne (sym e ∙ same))) ∙ at_here x xs n same)
  | inr other ↦ at_other x r n other ∙ ih ∙ ap (λ o. cond (n == d.1) (Some d.0) o) (sym (at_other x xs n other))
]

pub at-with_due : (ds : List Due) (d : Due) (n : ℕ) → at ds d.1 ≡ None → at (with_due ds d) n ≡ cond (n == d.1) (Some d.0) (at ds n)
at-with_due [] d n absent = refl
at-with_due (x ∷ xs) d n absent =
    let parts = absent_parts x xs d.1 absent in
    by (comes_first x d) (with_steps n x d (with_due xs d) xs parts.1 parts.0 (at-with_due xs d n parts.1))
  where
    by : (b : Bool) → at (x ∷ with_due xs d) n ≡ cond (n == d.1) (Some d.0) (at (x ∷ xs) n)
        → at (cond b (x ∷ with_due xs d) (d ∷ x ∷ xs)) n ≡ cond (n == d.1) (Some d.0) (at (x ∷ xs) n)
    by true later = later
    by false later = refl

all_with : (P : Due → Type 0) (xs : List Due) (new : Due) → P new → AllByRecursion P xs → AllByRecursion P (with_due xs new)
all_with P [] new here h = (here, tt)
all_with P (x ∷ xs) new here h = by (comes_first x new) (all_with P xs new here h.1)
  where
    by : (b : Bool) → AllByRecursion P (with_due xs new) → AllByRecursion P (cond b (x ∷ with_due xs new) (new ∷ x ∷ xs))
    by true rest = (h.0, rest)
    by false rest = (here, h)

all_after : (new x : Due) (xs : List Due) → comes_first new x ≡ true → AllByRecursion (λ e. comes_first x e ≡ true) xs → AllByRecursion (λ e. comes_first new e ≡ true) xs
all_after new x [] h all = tt
all_after new x (y ∷ ys) h all = (first_trans new x y h all.0, all_after new x ys h all.1)

Rises-with_due : (xs : List Due) (new : Due) → Rises xs → at xs new.1 ≡ None → Rises (with_due xs new)
Rises-with_due [] new h absent = (tt, tt)
Rises-with_due (x ∷ xs) new h absent =
    let parts = absent_parts x xs new.1 absent in
    by (comes_first x new) refl (Rises-with_due xs new h.1 parts.1) parts.0
  where
    by : (b : Bool) → comes_first x new ≡ b → Rises (with_due xs new) → (new.1 ≡ x.1 → ⊥) → Rises (cond b (x ∷ with_due xs new) (new ∷ x ∷ xs))
    by true e rest ne = (all_with (λ y. comes_first x y ≡ true) xs new e h.0, rest)
    by false e rest ne =
        let first : comes_first new x ≡ true = first_total x new e ne in
        ((first, all_after new x xs first h.0), h)

EachOnce-with_due : (xs : List Due) (new : Due) → EachOnce xs → at xs new.1 ≡ None → EachOnce (with_due xs new)
EachOnce-with_due [] new h absent = (refl, tt)
EachOnce-with_due (x ∷ xs) new h absent =
    let parts = absent_parts x xs new.1 absent in
    let first : at (with_due xs new) x.1 ≡ None =
    at-with_due xs new x.1 parts.1 ∙ cond-false (x.1 == new.1) (Some new.0) (at xs x.1) (ne_eqb x.1 new.1 (λ e. parts.0 (sym e))) ∙ h.0 in
    by (comes_first x new) first (EachOnce-with_due xs new h.1 parts.1)
  where
    by : (b : Bool) → at (with_due xs new) x.1 ≡ None → EachOnce (with_due xs new) → EachOnce (cond b (x ∷ with_due xs new) (new ∷ x ∷ xs))
    by true first rest = (first, rest)
    by false first rest = (absent, h)

pub IsQueue-with_due : (ds : List Due) (d : Due) → IsQueue ds → at ds d.1 ≡ None → IsQueue (with_due ds d)
IsQueue-with_due ds d q absent = record { rises = Rises-with_due ds d q.rises absent; once = EachOnce-with_due ds d q.once absent }

-- ---- without a number

none_cond : (b : Bool) → ◌≡◌ {A = Option ℕ} (cond b None None) None
none_cond true = refl
none_cond false = refl

pub at-without : (ds : List Due) (n k : ℕ) → at (without ds n) k ≡ cond (k == n) None (at ds k)
at-without [] n k = sym (none_cond (k == n))
at-without (d ∷ ds) n k = elim (cases_eq n d.1) [
  | inl same ↦ gone same (at-without ds n k)
  | inr other ↦ stays other (at-without ds n k)
]
  where
    gone : n ≡ d.1 → at (without ds n) k ≡ cond (k == n) None (at ds k) → at (without (d ∷ ds) n) k ≡ cond (k == n) None (at (d ∷ ds) k)
    gone same ih =
        let out : without (d ∷ ds) n ≡ without ds n = rw (eq-eqb n d.1 same) refl in
        ap (λ l. at l k) out ∙ ih ∙ elim (cases_eq k n) [
          | inl here ↦ cond-true (k == n) None (at ds k) (eq-eqb k n here) ∙ sym (cond-true (k == n) None (at (d ∷ ds) k) (eq-eqb k n here))
          | inr away ↦ ap (λ o. cond (k == n) None o) (sym (at_other d ds k (λ e. away (e ∙ sym same))))
        ]

    stays : (n ≡ d.1 → ⊥) → at (without ds n) k ≡ cond (k == n) None (at ds k) → at (without (d ∷ ds) n) k ≡ cond (k == n) None (at (d ∷ ds) k)
    stays other ih =
        let still : without (d ∷ ds) n ≡ d ∷ without ds n = rw (ne_eqb n d.1 other) refl in
        ap (λ l. at l k) still ∙ elim (cases_eq k d.1) [
          | inl here ↦ at_here d (without ds n) k here ∙ sym (cond-false (k == n) None (at (d ∷ ds) k) (ne_eqb k n (λ e. other (sym e ∙ here))) ∙ at_here d ds k here)
          | inr away ↦ at_other d (without ds n) k away ∙ ih ∙ ap (λ o. cond (k == n) None o) (sym (at_other d ds k away))
        ]

all_without : (P : Due → Type 0) (ds : List Due) (n : ℕ) → AllByRecursion P ds → AllByRecursion P (without ds n)
all_without P [] n h = tt
all_without P (d ∷ ds) n h = by (not (n == d.1)) (all_without P ds n h.1)
  where
    by : (b : Bool) → AllByRecursion P (without ds n) → AllByRecursion P (cond b (d ∷ without ds n) (without ds n))
    by true rest = (h.0, rest)
    by false rest = rest

Rises-without : (ds : List Due) (n : ℕ) → Rises ds → Rises (without ds n)
Rises-without [] n h = tt
Rises-without (d ∷ ds) n h = by (not (n == d.1)) (Rises-without ds n h.1)
  where
    by : (b : Bool) → Rises (without ds n) → Rises (cond b (d ∷ without ds n) (without ds n))
    by true rest = (all_without (λ e. comes_first d e ≡ true) ds n h.0, rest)
    by false rest = rest

EachOnce-without : (ds : List Due) (n : ℕ) → EachOnce ds → EachOnce (without ds n)
EachOnce-without [] n h = tt
EachOnce-without (d ∷ ds) n h = by (not (n == d.1)) (EachOnce-without ds n h.1)
  where
    by : (b : Bool) → EachOnce (without ds n) → EachOnce (cond b (d ∷ without ds n) (without ds n))
    by true rest = (at-without ds n d.1 ∙ ap (λ o. cond (d.1 == n) None o) h.0 ∙ none_cond (d.1 == n), rest)
    by false rest = rest

pub IsQueue-without : (ds : List Due) (n : ℕ) → IsQueue ds → IsQueue (without ds n)
IsQueue-without ds n q = record { rises = Rises-without ds n q.rises; once = EachOnce-without ds n q.once }

-- ---- in rising order

pub at-rising : (ds : List Due) (n : ℕ) → EachOnce ds → at (rising ds) n ≡ at ds n
at-rising [] n once = refl
at-rising (d ∷ ds) n once =
    at-with_due (rising ds) d n (at-rising ds d.1 once.1 ∙ once.0) ∙ ap (λ o. cond (n == d.1) (Some d.0) o) (at-rising ds n once.1)

pub IsQueue-rising : (ds : List Due) → EachOnce ds → IsQueue (rising ds)
IsQueue-rising [] once = record { rises = tt; once = tt }
IsQueue-rising (d ∷ ds) once = IsQueue-with_due (rising ds) d (IsQueue-rising ds once.1) (at-rising ds d.1 once.1 ∙ once.0)

-- ---- pairs of numbered elements

pub at_lower : {A : Type 0} (f : ℕ → A → Option ℕ) (n : ℕ) (xs : List A) (k : ℕ) → k < n → at (pairs_from f n xs) k ≡ None
at_lower f n [] k lt = refl
at_lower f n (x ∷ xs) k lt = by (f n x) (at_lower f (suc n) xs k (omega arith))
  where
    by : (o : Option ℕ) → at (pairs_from f (suc n) xs) k ≡ None → at (option_map_or (λ moment. (moment, n) ∷ pairs_from f (suc n) xs) o (pairs_from f (suc n) xs)) k ≡ None
    by None rest = rest
    by (Some m) rest = at_other (m, n) (pairs_from f (suc n) xs) k (omega arith) ∙ rest

pub EachOnce-pairs_from : {A : Type 0} (f : ℕ → A → Option ℕ) (n : ℕ) (xs : List A) → EachOnce (pairs_from f n xs)
EachOnce-pairs_from f n [] = tt
EachOnce-pairs_from f n (x ∷ xs) = by (f n x) (at_lower f (suc n) xs n (omega arith)) (EachOnce-pairs_from f (suc n) xs)
  where
    by : (o : Option ℕ) → at (pairs_from f (suc n) xs) n ≡ None → EachOnce (pairs_from f (suc n) xs)
        → EachOnce (option_map_or (λ moment. (moment, n) ∷ pairs_from f (suc n) xs) o (pairs_from f (suc n) xs))
    by None first rest = rest
    by (Some m) first rest = (first, rest)

at_first : (n : ℕ) (o : Option ℕ) (rest : List Due) → at rest n ≡ None → at (option_map_or (λ moment. (moment, n) ∷ rest) o rest) n ≡ o
at_first n None rest e = e
at_first n (Some m) rest e = at_here (m, n) rest n refl

at_later : (n k : ℕ) (o : Option ℕ) (rest : List Due) → (k ≡ n → ⊥) → at (option_map_or (λ moment. (moment, n) ∷ rest) o rest) k ≡ at rest k
at_later n k None rest ne = refl
at_later n k (Some m) rest ne = at_other (m, n) rest k ne

-- the moment of the element at a place
pub at-pairs_from : {A : Type 0} (f : ℕ → A → Option ℕ) (n : ℕ) (xs : List A) (i k : ℕ) → k ≡ n + i → at (pairs_from f n xs) k ≡ option_and_then (f k) (slice_get xs i)
at-pairs_from f n [] i k e = refl
at-pairs_from f n (x ∷ xs) zero k e =
    let same : k ≡ n = omega arith in
    ap (λ j. at (pairs_from f n (x ∷ xs)) j) same ∙ at_first n (f n x) (pairs_from f (suc n) xs) (at_lower f (suc n) xs n (omega arith)) ∙ ap (λ j. f j x) (sym same)
at-pairs_from f n (x ∷ xs) (suc i) k e =
    at_later n k (f n x) (pairs_from f (suc n) xs) (omega arith) ∙ at-pairs_from f (suc n) xs i k (omega arith)
