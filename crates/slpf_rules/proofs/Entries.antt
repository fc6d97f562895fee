-- The map of rules by number, as the list of its rules.
use Rattle.std.proofs.Common.{◌≡◌, ℕ, zero, suc, ◌≤◌, Bool, true, false, cond, ◌==◌, not, List, [], ◌∷◌, Some, is_some, Ordering, Less, Equal, Greater, nat_cmp, refl, sym, ap, ap₂, subst, ◌∙◌, arith, All, slice_get, unwrap_or, option_map}
use Rattle.std.specs.List.{AllByRecursion}
use Rattle.std.specs.Map.{keys_of, values_of, lookup, remove_entry}
use Rattle.std.specs.BTreeMap.{insert_entry, is_at}
use Rattle.std.specs.Ordering.{is_eq, is_lt, match_ordering}
use Rattle.std.proofs.lemmas.Cmp.{ranked, by_ranked}
use Rattle.std.proofs.lemmas.Map.Keys.{sorted_head, sorted_tail, ge_from_not_lt}
use Rattle.std.specs.Cmp.{Equal-is}
use Rattle.slpf_rules.specs.declared.rules.Rule.{Rule}
use Rattle.slpf_rules.specs.Rules.{numbers, rule_at, is_held, greatest, place, without}
use Rattle.slpf_rules.specs.Order.{IsNumbered}
use Rattle.std.specs.List.Sorted.{IsStrictlySortedBy}
use Rattle.slpf_rules.proofs.NumberTests.{is_eq_nat, lt_is, not_lt_is, eq_is, is_some-find, filter_all, or_left, or_right, or_none}

-- each rule stands under its number
abbrev pub IsKeyed : List (ℕ × Rule) → Type 0
IsKeyed [] = Unit {0}
IsKeyed (e ∷ es) = (e.0 ≡ e.1.number) × IsKeyed es

pub is_keyed : (es : List (ℕ × Rule)) → keys_of es ≡ numbers (values_of es) → IsKeyed es
is_keyed [] h = tt
is_keyed (e ∷ es) h =
    let here : e.0 ≡ e.1.number = cc in
    let rest : keys_of es ≡ numbers (values_of es) = cc in
    (here, is_keyed es rest)

pub keyed_is : (es : List (ℕ × Rule)) → IsKeyed es → keys_of es ≡ numbers (values_of es)
keyed_is [] h = refl
keyed_is (e ∷ es) h = ap₂ (λ k ks. k ∷ ks) h.0 (keyed_is es h.1)

pub lookup-keyed : (n : ℕ) (es : List (ℕ × Rule)) → IsKeyed es → lookup (is_at (nat_cmp n)) es ≡ rule_at n (values_of es)
lookup-keyed n [] h = refl
lookup-keyed n (e ∷ es) h =
    ap₂ (λ b r. cond b (Some e.1) r) (is_eq_nat n e.0 ∙ ap (λ k. k == n) h.0) (lookup-keyed n es h.1)

pub is_some-lookup-keyed : (n : ℕ) (es : List (ℕ × Rule)) → IsKeyed es → is_some (lookup (is_at (nat_cmp n)) es) ≡ is_held n (values_of es)
is_some-lookup-keyed n es h = ap is_some (lookup-keyed n es h) ∙ is_some-find (λ rule. rule.number == n) (values_of es)

-- what a map has after an entry, by how the keys compare
abbrev put : Rule → ℕ × Rule → List (ℕ × Rule) → List (ℕ × Rule) → Ordering → List (ℕ × Rule)
put r e es behind o = match_ordering o ((r.number, r) ∷ e ∷ es) ((e.0, r) ∷ es) (e ∷ behind)

pub values-insert_entry : (r : Rule) (es : List (ℕ × Rule)) → IsKeyed es → is_held r.number (values_of es) ≡ false → values_of (insert_entry nat_cmp es r.number r) ≡ place r (values_of es)
values-insert_entry r [] h free = refl
values-insert_entry r (e ∷ es) h free =
    let rest = or_right (e.1.number == r.number) (is_held r.number (values_of es)) free in
    let choose = λ (b : Bool). cond b (r ∷ e.1 ∷ values_of es) (e.1 ∷ place r (values_of es)) in
    let found = λ (o : Ordering). values_of (put r e es (insert_entry nat_cmp es r.number r) o) in
    by_ranked _ _ _ (nat_cmp r.number e.0) (ranked r.number e.0 (nat_cmp r.number e.0) refl)
    (λ is lt. ap found is ∙ sym (ap choose (lt_is r.number e.1.number (omega (arith, h.0)))))
    (λ is eq. let here : (e.1.number == r.number) ≡ true = eq_is e.1.number r.number (omega (arith, h.0)) in let free' = or_left (e.1.number == r.number) (is_held r.number (values_of es)) free in cc)
    (λ is gt. ap found is ∙ ap (λ l. e.1 ∷ l) (values-insert_entry r es h.1 rest) ∙ sym (ap choose (not_lt_is r.number e.1.number (omega (arith, h.0)))))

same_number : (n k : ℕ) → nat_cmp n k ≡ Equal → k ≡ n
same_number n k h = by_ranked _ _ _ (nat_cmp n k) (ranked n k (nat_cmp n k) refl) (λ is lt. cc) (λ is eq. sym eq) (λ is gt. cc)

keyed_put : (r : Rule) (e : ℕ × Rule) (es behind : List (ℕ × Rule)) (o : Ordering) → IsKeyed (e ∷ es) → IsKeyed behind → (o ≡ Equal → e.0 ≡ r.number) → IsKeyed (put r e es behind o)
keyed_put r e es behind Less h w same = (refl, h)
keyed_put r e es behind Equal h w same = (same refl, h.1)
keyed_put r e es behind Greater h w same = (h.0, w)

pub IsKeyed-insert_entry : (r : Rule) (es : List (ℕ × Rule)) → IsKeyed es → IsKeyed (insert_entry nat_cmp es r.number r)
IsKeyed-insert_entry r [] h = (refl, tt)
IsKeyed-insert_entry r (e ∷ es) h = keyed_put r e es (insert_entry nat_cmp es r.number r) (nat_cmp r.number e.0) h (IsKeyed-insert_entry r es h.1) (same_number r.number e.0)

-- ---- a rule is taken out

at_head : (n : ℕ) (e : ℕ × Rule) (es : List (ℕ × Rule)) → is_eq (nat_cmp n e.0) ≡ true → AllByRecursion (λ y. nat_cmp e.0 y ≡ Less) (keys_of es) → AllByRecursion (λ y. nat_cmp n y ≡ Less) (keys_of es)
at_head n e es h w = let same : e.0 ≡ n = same_number n e.0 ((Equal-is (nat_cmp n e.0)).0 h) in subst (λ k. AllByRecursion (λ y. nat_cmp k y ≡ Less) (keys_of es)) same w

none_held : (n : ℕ) (es : List (ℕ × Rule)) → IsKeyed es → AllByRecursion (λ y. nat_cmp n y ≡ Less) (keys_of es) → is_held n (values_of es) ≡ false
none_held n [] h w = refl
none_held n (e ∷ es) h w =
    let here : (e.1.number == n) ≡ false = sym (is_eq_nat n e.1.number) ∙ ap (λ k. is_eq (nat_cmp n k)) (sym h.0) ∙ ap is_eq w.0 in
    or_none (e.1.number == n) (is_held n (values_of es)) here (none_held n es h.1 w.1)

removed : (n : ℕ) (e : ℕ × Rule) (es behind : List (ℕ × Rule)) (kept : List Rule) (b : Bool) → (b ≡ true → kept ≡ values_of es) → (b ≡ false → values_of behind ≡ kept)
    → values_of (cond b es (e ∷ behind)) ≡ cond (not b) (e.1 ∷ kept) kept
removed n e es behind kept true h w = sym (h refl)
removed n e es behind kept false h w = ap (λ l. e.1 ∷ l) (w refl)

pub values-remove_entry : (n : ℕ) (es : List (ℕ × Rule)) → IsKeyed es → IsStrictlySortedBy nat_cmp (keys_of es) → values_of (remove_entry (is_at (nat_cmp n)) es) ≡ without n (values_of es)
values-remove_entry n [] h s = refl
values-remove_entry n (e ∷ es) h s =
    let tests : is_eq (nat_cmp n e.0) ≡ (e.1.number == n) = is_eq_nat n e.0 ∙ ap (λ k. k == n) h.0 in
    removed n e es (remove_entry (is_at (nat_cmp n)) es) (without n (values_of es)) (is_eq (nat_cmp n e.0))
    (λ is. filter_all (λ rule. rule.number == n) (values_of es) (none_held n es h.1 (at_head n e es is (sorted_head nat_cmp e.0 (keys_of es) s))))
    (λ is. values-remove_entry n es h.1 (sorted_tail nat_cmp e.0 (keys_of es) s))
    ∙ ap (λ b. cond (not b) (e.1 ∷ without n (values_of es)) (without n (values_of es))) tests

keyed_taken : (e : ℕ × Rule) (es behind : List (ℕ × Rule)) (b : Bool) → IsKeyed (e ∷ es) → IsKeyed behind → IsKeyed (cond b es (e ∷ behind))
keyed_taken e es behind true h w = h.1
keyed_taken e es behind false h w = (h.0, w)

pub IsKeyed-remove_entry : (n : ℕ) (es : List (ℕ × Rule)) → IsKeyed es → IsKeyed (remove_entry (is_at (nat_cmp n)) es)
IsKeyed-remove_entry n [] h = tt
IsKeyed-remove_entry n (e ∷ es) h = keyed_taken e es (remove_entry (is_at (nat_cmp n)) es) (is_eq (nat_cmp n e.0)) h (IsKeyed-remove_entry n es h.1)

-- ---- the greatest number

pub greatest-le : (k : ℕ) (es : List (ℕ × Rule)) → IsKeyed es → All (λ q. is_lt (nat_cmp k q) ≡ false) (keys_of es) → greatest (values_of es) ≤ k
greatest-le k [] h w = omega arith
greatest-le k (e ∷ es) h w =
    let here : e.0 ≤ k = ge_from_not_lt k e.0 (w 0 e.0 (omega arith)) in
    let behind = greatest-le k es h.1 (λ i d lt. w (suc i) d (omega arith)) in
    omega (arith, h.0)

pub le-greatest : (k : ℕ) (v : Rule) (i : ℕ) (es : List (ℕ × Rule)) → IsKeyed es → slice_get es i ≡ Some (k, v) → k ≤ greatest (values_of es)
le-greatest k v i [] h w = cc
le-greatest k v zero (e ∷ es) h w =
    let same : e.0 ≡ k = ap (λ o. unwrap_or (option_map (λ p. p.0) o) 0) w in
    omega (arith, h.0)
le-greatest k v (suc i) (e ∷ es) h w = let behind = le-greatest k v i es h.1 w in omega arith

-- ---- what the map keeps

pub IsNumbered-insert_entry : (r : Rule) (es : List (ℕ × Rule)) → IsNumbered es → IsStrictlySortedBy nat_cmp (keys_of (insert_entry nat_cmp es r.number r)) → IsNumbered (insert_entry nat_cmp es r.number r)
IsNumbered-insert_entry r es h s = record {
  keyed = keyed_is (insert_entry nat_cmp es r.number r) (IsKeyed-insert_entry r es (is_keyed es h.keyed));
  rising = s;
}

pub IsNumbered-remove_entry : (n : ℕ) (es : List (ℕ × Rule)) → IsNumbered es → IsStrictlySortedBy nat_cmp (keys_of (remove_entry (is_at (nat_cmp n)) es)) → IsNumbered (remove_entry (is_at (nat_cmp n)) es)
IsNumbered-remove_entry n es h s = record {
  keyed = keyed_is (remove_entry (is_at (nat_cmp n)) es) (IsKeyed-remove_entry n es (is_keyed es h.keyed));
  rising = s;
}
