-- Rules in order of number: placed, taken out, and by a test.
use Rattle.std.proofs.Common.{◌≡◌, ℕ, suc, ◌<◌, ◌≤◌, Bool, true, false, cond, ◌==◌, nat_lt, not, List, [], ◌∷◌, length, filter, Option, Some, None, Ordering, Less, nat_cmp, refl, sym, ap, ap₂, subst, ◌∙◌, arith}
use Rattle.std.specs.List.{AllByRecursion}
use Rattle.std.specs.List.Sorted.{IsStrictlySortedBy}
use Rattle.std.specs.Map.{values_of}
use Rattle.std.specs.Set.{remove_key}
use Rattle.std.specs.BTreeMap.{is_at}
use Rattle.std.specs.BTreeSet.{insert_key}
use Rattle.std.specs.Ordering.{match_ordering}
use Rattle.std.proofs.lemmas.Cmp.{ranked, by_ranked}
use Rattle.std.proofs.lemmas.Map.Keys.{sorted_head, sorted_tail}
use Rattle.std.proofs.lemmas.Bool.Decides.{nat_tests}
use Rattle.slpf_rules.specs.declared.rules.Rule.{Rule}
use Rattle.slpf_rules.specs.Rules.{numbers, rule_at, is_held, greatest, place, without}
use Rattle.slpf_rules.specs.Order.{IsAbove, IsRising, IsNumbered}
use Rattle.slpf_rules.proofs.NumberTests.{apart_from, differs, same_from, is_eq_nat, lt_is, not_lt_is, eq_is, filter_all, or_left, or_right, or_none}

lt_from_less : (n k : ℕ) → nat_cmp n k ≡ Less → n < k
lt_from_less n k h = by_ranked _ _ _ (nat_cmp n k) (ranked n k (nat_cmp n k) refl) (λ is lt. lt) (λ is eq. cc) (λ is gt. cc)

above : (n : ℕ) (rules : List Rule) → AllByRecursion (λ y. nat_cmp n y ≡ Less) (numbers rules) → IsAbove n rules
above n [] h = tt
above n (r ∷ rules) h = (lt_from_less n r.number h.0, above n rules h.1)

IsRising-from_sorted : (rules : List Rule) → IsStrictlySortedBy nat_cmp (numbers rules) → IsRising rules
IsRising-from_sorted [] h = tt
IsRising-from_sorted (r ∷ rules) h = (above r.number rules (sorted_head nat_cmp r.number (numbers rules) h), IsRising-from_sorted rules (sorted_tail nat_cmp r.number (numbers rules) h))

pub IsRising-from_numbered : (es : List (ℕ × Rule)) → IsNumbered es → IsRising (values_of es)
IsRising-from_numbered es h = IsRising-from_sorted (values_of es) (subst (IsStrictlySortedBy nat_cmp) h.keyed h.rising)

pub IsAbove-less : (n m : ℕ) (rules : List Rule) → n ≤ m → IsAbove m rules → IsAbove n rules
IsAbove-less n m [] h w = tt
IsAbove-less n m (r ∷ rules) h w = (omega (arith, w.0), IsAbove-less n m rules h w.1)

above_if : (n : ℕ) (b : Bool) (r : Rule) (rules : List Rule) → n < r.number → IsAbove n rules → IsAbove n (cond b (r ∷ rules) rules)
above_if n true r rules h w = (h, w)
above_if n false r rules h w = w

pub IsAbove-filter : (n : ℕ) (p : Rule → Bool) (rules : List Rule) → IsAbove n rules → IsAbove n (filter p rules)
IsAbove-filter n p [] h = tt
IsAbove-filter n p (r ∷ rules) h = above_if n (p r) r (filter p rules) h.0 (IsAbove-filter n p rules h.1)

rises_if : (b : Bool) (r : Rule) (rules : List Rule) → IsAbove r.number rules → IsRising rules → IsRising (cond b (r ∷ rules) rules)
rises_if true r rules h w = (h, w)
rises_if false r rules h w = w

pub IsRising-filter : (p : Rule → Bool) (rules : List Rule) → IsRising rules → IsRising (filter p rules)
IsRising-filter p [] h = tt
IsRising-filter p (r ∷ rules) h = rises_if (p r) r (filter p rules) (IsAbove-filter r.number p rules h.0) (IsRising-filter p rules h.1)

-- no rule above a number has it
pub none_above : (n : ℕ) (rules : List Rule) → IsAbove n rules → is_held n rules ≡ false
none_above n [] h = refl
none_above n (r ∷ rules) h =
    let here : (r.number == n) ≡ false = differs r.number n h.0 in
    or_none (r.number == n) (is_held n rules) here (none_above n rules h.1)

-- ---- placed

pub place-above : (r : Rule) (rules : List Rule) → IsAbove r.number rules → place r rules ≡ r ∷ rules
place-above r [] h = refl
place-above r (q ∷ rules) h = ap (λ b. cond b (r ∷ q ∷ rules) (q ∷ place r rules)) (lt_is r.number q.number h.0)

place_if : (r q : Rule) (rules : List Rule) (b : Bool) → q.number ≤ r.number → cond b (q ∷ place r rules) (place r rules) ≡ place r (cond b (q ∷ rules) rules)
place_if r q rules true h = sym (ap (λ b. cond b (r ∷ q ∷ rules) (q ∷ place r rules)) (not_lt_is r.number q.number h))
place_if r q rules false h = refl

pub split : {G : Type 0} (n m : ℕ) → (n < m → G) → (m ≤ n → G) → G
split n m f g = by_ranked _ _ _ (nat_cmp n m) (ranked n m (nat_cmp n m) refl) (λ is lt. f lt) (λ is eq. g (omega arith)) (λ is gt. g (omega arith))

-- a test that the placed rule passes
pub filter-place : (p : Rule → Bool) (r : Rule) (rules : List Rule) → IsRising rules → p r ≡ true → filter p (place r rules) ≡ place r (filter p rules)
filter-place p r [] h w = ap (λ b. cond b (r ∷ []) []) w
filter-place p r (q ∷ rules) h w =
    let all = q ∷ rules in
    split r.number q.number
    (λ lt.
    ap (λ b. filter p (cond b (r ∷ q ∷ rules) (q ∷ place r rules))) (lt_is r.number q.number lt)
    ∙ ap (λ b. cond b (r ∷ filter p all) (filter p all)) w
    ∙ sym (place-above r (filter p all) (IsAbove-filter r.number p all (lt, IsAbove-less r.number q.number rules (omega arith) h.0))))
    (λ ge.
    ap (λ b. filter p (cond b (r ∷ q ∷ rules) (q ∷ place r rules))) (not_lt_is r.number q.number ge)
    ∙ ap (λ l. cond (p q) (q ∷ l) l) (filter-place p r rules h.1 w)
    ∙ place_if r q (filter p rules) (p q) ge)

-- a test that it does not pass
pub filter-place_other : (p : Rule → Bool) (r : Rule) (rules : List Rule) → p r ≡ false → filter p (place r rules) ≡ filter p rules
filter-place_other p r [] w = ap (λ b. cond b (r ∷ []) []) w
filter-place_other p r (q ∷ rules) w =
    let all = q ∷ rules in
    split r.number q.number
    (λ lt.
    ap (λ b. filter p (cond b (r ∷ q ∷ rules) (q ∷ place r rules))) (lt_is r.number q.number lt)
    ∙ ap (λ b. cond b (r ∷ filter p all) (filter p all)) w)
    (λ ge.
    ap (λ b. filter p (cond b (r ∷ q ∷ rules) (q ∷ place r rules))) (not_lt_is r.number q.number ge)
    ∙ ap (λ l. cond (p q) (q ∷ l) l) (filter-place_other p r rules w))

held_if : (n : ℕ) (b : Bool) (r : Rule) (rules : List Rule) → (r.number == n) ≡ false → is_held n rules ≡ false → is_held n (cond b (r ∷ rules) rules) ≡ false
held_if n true r rules h w = or_none (r.number == n) (is_held n rules) h w
held_if n false r rules h w = w

pub is_held-filter : (n : ℕ) (p : Rule → Bool) (rules : List Rule) → is_held n rules ≡ false → is_held n (filter p rules) ≡ false
is_held-filter n p [] h = refl
is_held-filter n p (r ∷ rules) h =
    held_if n (p r) r (filter p rules) (or_left (r.number == n) (is_held n rules) h) (is_held-filter n p rules (or_right (r.number == n) (is_held n rules) h))

pub numbers-place : (r : Rule) (rules : List Rule) → is_held r.number rules ≡ false → numbers (place r rules) ≡ insert_key nat_cmp (numbers rules) r.number
numbers-place r [] h = refl
numbers-place r (q ∷ rules) h =
    let rest = or_right (q.number == r.number) (is_held r.number rules) h in
    let here = or_left (q.number == r.number) (is_held r.number rules) h in
    let choose = λ (b : Bool). numbers (cond b (r ∷ q ∷ rules) (q ∷ place r rules)) in
    let found = λ (o : Ordering). match_ordering o (r.number ∷ numbers (q ∷ rules)) (numbers (q ∷ rules)) (q.number ∷ insert_key nat_cmp (numbers rules) r.number) in
    by_ranked _ _ _ (nat_cmp r.number q.number) (ranked r.number q.number (nat_cmp r.number q.number) refl)
    (λ is lt. ap choose (lt_is r.number q.number lt) ∙ sym (ap found is))
    (λ is eq. let there : (q.number == r.number) ≡ true = eq_is q.number r.number (sym eq) in cc)
    (λ is gt. ap choose (not_lt_is r.number q.number (omega arith)) ∙ ap (λ l. q.number ∷ l) (numbers-place r rules rest) ∙ sym (ap found is))

-- ---- taken out

without_if : (n : ℕ) (q : Rule) (rules : List Rule) (behind : List ℕ) (b : Bool) → (b ≡ true → without n rules ≡ rules) → numbers (without n rules) ≡ behind
    → numbers (cond (not b) (q ∷ without n rules) (without n rules)) ≡ cond b (numbers rules) (q.number ∷ behind)
without_if n q rules behind true h w = ap numbers (h refl)
without_if n q rules behind false h w = ap (λ l. q.number ∷ l) w

pub numbers-without : (n : ℕ) (rules : List Rule) → IsRising rules → numbers (without n rules) ≡ remove_key (is_at (nat_cmp n)) (numbers rules)
numbers-without n [] h = refl
numbers-without n (q ∷ rules) h =
    let behind = remove_key (is_at (nat_cmp n)) (numbers rules) in
    without_if n q rules behind (q.number == n)
    (λ is. filter_all (λ rule. rule.number == n) rules (none_above n rules (subst (λ k. IsAbove k rules) (same_from q.number n is) h.0)))
    (numbers-without n rules h.1)
    ∙ ap (λ b. cond b (numbers rules) (q.number ∷ behind)) (sym (is_eq_nat n q.number))

filter_cond : {A : Type 0} (q : A → Bool) (a : Bool) (x : A) (xs : List A) → filter q (cond a (x ∷ xs) xs) ≡ cond a (cond (q x) (x ∷ filter q xs) (filter q xs)) (filter q xs)
filter_cond q true x xs = refl
filter_cond q false x xs = refl

cond_swap : {A : Type 0} (a b : Bool) (x : A) (xs : List A) → cond b (cond a (x ∷ xs) xs) xs ≡ cond a (cond b (x ∷ xs) xs) xs
cond_swap true true x xs = refl
cond_swap true false x xs = refl
cond_swap false true x xs = refl
cond_swap false false x xs = refl

pub filter_swap : {A : Type 0} (p q : A → Bool) (xs : List A) → filter p (filter q xs) ≡ filter q (filter p xs)
filter_swap p q [] = refl
filter_swap p q (x ∷ xs) =
    filter_cond p (q x) x (filter q xs)
    ∙ ap (λ l. cond (q x) (cond (p x) (x ∷ l) l) l) (filter_swap p q xs)
    ∙ cond_swap (p x) (q x) x (filter q (filter p xs))
    ∙ sym (filter_cond q (p x) x (filter p xs))

pub filter_same : {A : Type 0} (p q : A → Bool) (xs : List A) → ((x : A) → p x ≡ q x) → filter p xs ≡ filter q xs
filter_same p q [] h = refl
filter_same p q (x ∷ xs) h = ap₂ (λ b l. cond b (x ∷ l) l) (h x) (filter_same p q xs h)

-- ---- placed, and taken out again

above_choice : (n : ℕ) (r q : Rule) (rules : List Rule) (b : Bool) → n < r.number → IsAbove n (q ∷ rules) → IsAbove n (place r rules) → IsAbove n (cond b (r ∷ q ∷ rules) (q ∷ place r rules))
above_choice n r q rules true h w v = (h, w)
above_choice n r q rules false h w v = (w.0, v)

IsAbove-place : (n : ℕ) (r : Rule) (rules : List Rule) → n < r.number → IsAbove n rules → IsAbove n (place r rules)
IsAbove-place n r [] h w = (h, tt)
IsAbove-place n r (q ∷ rules) h w = above_choice n r q rules (nat_lt r.number q.number) h w (IsAbove-place n r rules h w.1)

apart : (n k : ℕ) → (n == k) ≡ false → n ≤ k → n < k
apart n k h w = grind (arith, nat_tests)

pub IsRising-place : (r : Rule) (rules : List Rule) → IsRising rules → is_held r.number rules ≡ false → IsRising (place r rules)
IsRising-place r [] h free = (tt, tt)
IsRising-place r (q ∷ rules) h free =
    let here = or_left (q.number == r.number) (is_held r.number rules) free in
    let rest = or_right (q.number == r.number) (is_held r.number rules) free in
    let choose = λ (b : Bool). cond b (r ∷ q ∷ rules) (q ∷ place r rules) in
    split r.number q.number
    (λ lt. subst IsRising (sym (ap choose (lt_is r.number q.number lt))) ((lt, IsAbove-less r.number q.number rules (omega arith) h.0), h))
    (λ ge. subst IsRising (sym (ap choose (not_lt_is r.number q.number ge))) (IsAbove-place q.number r rules (apart q.number r.number here ge) h.0, IsRising-place r rules h.1 rest))

pub rule_at-place : (r : Rule) (rules : List Rule) → is_held r.number rules ≡ false → rule_at r.number (place r rules) ≡ Some r
rule_at-place r [] free = ap (λ b. cond b (Some r) None) (eq_is r.number r.number refl)
rule_at-place r (q ∷ rules) free =
    let here = or_left (q.number == r.number) (is_held r.number rules) free in
    let rest = or_right (q.number == r.number) (is_held r.number rules) free in
    let choose = λ (b : Bool). rule_at r.number (cond b (r ∷ q ∷ rules) (q ∷ place r rules)) in
    split r.number q.number
    (λ lt. ap choose (lt_is r.number q.number lt) ∙ ap (λ b. cond b (Some r) (rule_at r.number (q ∷ rules))) (eq_is r.number r.number refl))
    (λ ge. ap choose (not_lt_is r.number q.number ge) ∙ ap (λ b. cond b (Some q) (rule_at r.number (place r rules))) here ∙ rule_at-place r rules rest)

pub without-place : (r : Rule) (rules : List Rule) → is_held r.number rules ≡ false → without r.number (place r rules) ≡ rules
without-place r [] free = ap (λ b. cond (not b) (r ∷ []) []) (eq_is r.number r.number refl)
without-place r (q ∷ rules) free =
    let here = or_left (q.number == r.number) (is_held r.number rules) free in
    let rest = or_right (q.number == r.number) (is_held r.number rules) free in
    let choose = λ (b : Bool). without r.number (cond b (r ∷ q ∷ rules) (q ∷ place r rules)) in
    let all = without r.number (q ∷ rules) in
    split r.number q.number
    (λ lt. ap choose (lt_is r.number q.number lt) ∙ ap (λ b. cond (not b) (r ∷ all) all) (eq_is r.number r.number refl) ∙ filter_all (λ rule. rule.number == r.number) (q ∷ rules) free)
    (λ ge. ap choose (not_lt_is r.number q.number ge)
    ∙ ap (λ b. cond (not b) (q ∷ without r.number (place r rules)) (without r.number (place r rules))) here
    ∙ ap (λ l. q ∷ l) (without-place r rules rest))

length_choice : (r q : Rule) (rules : List Rule) (b : Bool) → length (place r rules) ≡ suc (length rules) → length (cond b (r ∷ q ∷ rules) (q ∷ place r rules)) ≡ suc (suc (length rules))
length_choice r q rules true h = refl
length_choice r q rules false h = ap suc h

length_kept : (q : Rule) (rules kept : List Rule) (b : Bool) → length kept ≤ length rules → length (cond b (q ∷ kept) kept) ≤ suc (length rules)
length_kept q rules kept true h = omega arith
length_kept q rules kept false h = omega arith

found_choice : (n : ℕ) (q r : Rule) (behind : Option Rule) (b : Bool) → cond b (Some q) behind ≡ Some r → (b ≡ true → q.number ≡ n) → (behind ≡ Some r → r.number ≡ n) → r.number ≡ n
found_choice n q r behind true h here there = let same : q ≡ r = cc in sym (ap (λ x. x.number) same) ∙ here refl
found_choice n q r behind false h here there = there h

pub length-place : (r : Rule) (rules : List Rule) → length (place r rules) ≡ suc (length rules)
length-place r [] = refl
length-place r (q ∷ rules) = length_choice r q rules (nat_lt r.number q.number) (length-place r rules)

pub length-without : (n : ℕ) (rules : List Rule) → length (without n rules) ≤ length rules
length-without n [] = omega arith
length-without n (q ∷ rules) = length_kept q rules (without n rules) (not (q.number == n)) (length-without n rules)

pub found_number : (n : ℕ) (rules : List Rule) (r : Rule) → rule_at n rules ≡ Some r → r.number ≡ n
found_number n [] r h = cc
found_number n (q ∷ rules) r h = found_choice n q r (rule_at n rules) (q.number == n) h (same_from q.number n) (found_number n rules r)

pub not_over : (n : ℕ) (rules : List Rule) → greatest rules < n → is_held n rules ≡ false
not_over n [] h = refl
not_over n (q ∷ rules) h = or_none (q.number == n) (is_held n rules) (apart_from q.number n (omega arith)) (not_over n rules (omega arith))
