-- How many nets of a width an index has.
use Rattle.std.proofs.Common.{◌≡◌, ℕ, ◌+◌, ◌≤◌, Bool, true, false, cond, ◌==◌, ◌&&◌, ◌||◌, List, [], ◌∷◌, Option, Some, None, is_some, count_by, Ordering, Less, Equal, Greater, nat_cmp, refl, sym, ap, ap₂, ◌∙◌, arith}
use Rattle.std.specs.List.{list_any}
use Rattle.std.specs.Map.{keys_of, lookup, remove_entry}
use Rattle.std.specs.Set.{remove_key}
use Rattle.std.specs.BTreeMap.{insert_entry, is_at}
use Rattle.std.specs.BTreeSet.{insert_key}
use Rattle.std.specs.Ordering.{is_eq, match_ordering, ordering_then}
use Rattle.std.proofs.lemmas.Bool.Decides.{nat_tests}
use Rattle.std.proofs.lemmas.List.Sums.{sum_by-cons}
use Rattle.std.proofs.lemmas.Cmp.{ranked, by_ranked}
use Rattle.slpf_rules.specs.declared.any_nets.AnyNet.{AnyNet}
use Rattle.slpf_rules.specs.AnyNets.{family, bits, width, net_cmp}
use Rattle.slpf_rules.specs.Widths.{has_width_of}
use Rattle.slpf_rules.specs.IndexEntries.{at}

-- ---- keys

map_match : (o : Ordering) (k x : AnyNet) (v u : List ℕ) (es behind : List (AnyNet × List ℕ)) (ks : List AnyNet) → keys_of behind ≡ ks
    → keys_of (match_ordering o ((k, v) ∷ (x, u) ∷ es) ((x, v) ∷ es) ((x, u) ∷ behind)) ≡ match_ordering o (k ∷ x ∷ keys_of es) (x ∷ keys_of es) (x ∷ ks)
map_match Less k x v u es behind ks h = refl
map_match Equal k x v u es behind ks h = refl
map_match Greater k x v u es behind ks h = ap (λ l. x ∷ l) h

pub keys-insert_entry : (k : AnyNet) (v : List ℕ) (es : List (AnyNet × List ℕ)) → keys_of (insert_entry net_cmp es k v) ≡ insert_key net_cmp (keys_of es) k
keys-insert_entry k v [] = refl
keys-insert_entry k v (e ∷ es) = map_match (net_cmp k e.0) k e.0 v e.1 es (insert_entry net_cmp es k v) (insert_key net_cmp (keys_of es) k) (keys-insert_entry k v es)

pub keys-remove_entry : (test : AnyNet → Bool) (es : List (AnyNet × List ℕ)) → keys_of (remove_entry test es) ≡ remove_key test (keys_of es)
keys-remove_entry test [] = refl
keys-remove_entry test (e ∷ es) =
    elim (test e.0) as (λ b. keys_of (cond b es (e ∷ remove_entry test es)) ≡ cond b (keys_of es) (e.0 ∷ remove_key test (keys_of es)))
    [ true ↦ refl | false ↦ ap (λ l. e.0 ∷ l) (keys-remove_entry test es) ]

pub is_some-lookup : (test : AnyNet → Bool) (es : List (AnyNet × List ℕ)) → is_some (lookup test es) ≡ list_any test (keys_of es)
is_some-lookup test [] = refl
is_some-lookup test (e ∷ es) =
    elim (test e.0) as (λ b. is_some (cond b (Some e.1) (lookup test es)) ≡ (b || list_any test (keys_of es)))
    [ true ↦ refl | false ↦ is_some-lookup test es ]

-- ---- equal nets

pub record SameParts (a b : AnyNet) : Type 0 where
  pub same_family : family a ≡ family b
  pub same_bits : bits a ≡ bits b
  pub same_width : width a ≡ width b

parts : (a b c d e f : ℕ) → is_eq (ordering_then (nat_cmp a b) (ordering_then (nat_cmp c d) (nat_cmp e f))) ≡ true → (a ≡ b) × (c ≡ d) × (e ≡ f)
parts a b c d e f h =
    by_ranked _ _ _ (nat_cmp a b) (ranked a b (nat_cmp a b) refl)
    (λ is lt. cc)
    (λ is eq.
    by_ranked _ _ _ (nat_cmp c d) (ranked c d (nat_cmp c d) refl)
    (λ is2 lt. cc)
    (λ is2 eq2.
    by_ranked _ _ _ (nat_cmp e f) (ranked e f (nat_cmp e f) refl)
    (λ is3 lt. cc)
    (λ is3 eq3. (eq, eq2, eq3))
    (λ is3 gt. cc))
    (λ is2 gt. cc))
    (λ is gt. cc)

pub SameParts-from_equal : (a b : AnyNet) → is_at (net_cmp a) b ≡ true → SameParts a b
SameParts-from_equal a b h =
    let all = parts (family a) (family b) (bits a) (bits b) (width a) (width b) h in
    record { same_family = all.0; same_bits = all.1; same_width = all.2 }

pub has_width_of-same : (other a b : AnyNet) → is_at (net_cmp a) b ≡ true → has_width_of other b ≡ has_width_of other a
has_width_of-same other a b h =
    let s = SameParts-from_equal a b h in
    ap₂ (λ f w. (family other == f) && (width other == w)) (sym s.same_family) (sym s.same_width)

both : (a b c d : ℕ) → a ≡ b → c ≡ d → ((a == b) && (c == d)) ≡ true
both a b c d h w = grind (arith, nat_tests)

pub has_width_of-equal : (a b : AnyNet) → is_at (net_cmp a) b ≡ true → has_width_of a b ≡ true
has_width_of-equal a b h = let s = SameParts-from_equal a b h in both (family a) (family b) (width a) (width b) s.same_family s.same_width

-- ---- counts

abbrev pub one : Bool → ℕ
one b = cond b 1 0

count_cons : (p : AnyNet → Bool) (x : AnyNet) (xs : List AnyNet) → count_by p (x ∷ xs) ≡ one (p x) + count_by p xs
count_cons p x xs = sum_by-cons (λ y. one (p y)) x xs

count_match : (p : AnyNet → Bool) (o : Ordering) (k x : AnyNet) (xs behind : List AnyNet) → is_eq o ≡ false → count_by p behind ≡ count_by p xs + one (p k)
    → count_by p (match_ordering o (k ∷ x ∷ xs) (x ∷ xs) (x ∷ behind)) ≡ count_by p (x ∷ xs) + one (p k)
count_match p Less k x xs behind apart h = omega (arith, count_cons p k (x ∷ xs))
count_match p Equal k x xs behind apart h = cc
count_match p Greater k x xs behind apart h = omega (arith, h, count_cons p x xs, count_cons p x behind)

first_or : (a b : Bool) → (a || b) ≡ false → (a ≡ false) × (b ≡ false)
first_or true b h = cc
first_or false b h = (refl, h)

pub count_by-insert_key : (p : AnyNet → Bool) (k : AnyNet) (ks : List AnyNet) → list_any (is_at (net_cmp k)) ks ≡ false → count_by p (insert_key net_cmp ks k) ≡ count_by p ks + one (p k)
count_by-insert_key p k [] h = omega (arith, count_cons p k [])
count_by-insert_key p k (x ∷ xs) h =
    let apart = first_or (is_at (net_cmp k) x) (list_any (is_at (net_cmp k)) xs) h in
    count_match p (net_cmp k x) k x xs (insert_key net_cmp xs k) apart.0 (count_by-insert_key p k xs apart.1)

count_taken : (p : AnyNet → Bool) (x : AnyNet) (xs behind : List AnyNet) (n : ℕ) (b any : Bool) → (b ≡ true → one (p x) ≡ n) → (any ≡ true → count_by p behind + n ≡ count_by p xs) → (b || any) ≡ true
    → count_by p (cond b xs (x ∷ behind)) + n ≡ count_by p (x ∷ xs)
count_taken p x xs behind n true any here there h = let e = here refl in omega (arith, e, count_cons p x xs)
count_taken p x xs behind n false any here there h = let e = there h in omega (arith, e, count_cons p x xs, count_cons p x behind)

pub count_by-remove_key : (p : AnyNet → Bool) (k : AnyNet) (ks : List AnyNet) → ((x : AnyNet) → is_at (net_cmp k) x ≡ true → p x ≡ p k) → list_any (is_at (net_cmp k)) ks ≡ true
    → count_by p (remove_key (is_at (net_cmp k)) ks) + one (p k) ≡ count_by p ks
count_by-remove_key p k [] same h = cc
count_by-remove_key p k (x ∷ xs) same h =
    count_taken p x xs (remove_key (is_at (net_cmp k)) xs) (one (p k)) (is_at (net_cmp k) x) (list_any (is_at (net_cmp k)) xs) (λ is. ap one (same x is)) (count_by-remove_key p k xs same) h

count_one : (p : AnyNet → Bool) (x : AnyNet) (xs : List AnyNet) (b any : Bool) → (b ≡ true → p x ≡ true) → (any ≡ true → 1 ≤ count_by p xs) → (b || any) ≡ true → 1 ≤ count_by p (x ∷ xs)
count_one p x xs true any here there h = let e = ap one (here refl) in omega (arith, e, count_cons p x xs)
count_one p x xs false any here there h = let e = there h in omega (arith, e, count_cons p x xs)

pub one-le-count : (k : AnyNet) (ks : List AnyNet) → list_any (is_at (net_cmp k)) ks ≡ true → 1 ≤ count_by (has_width_of k) ks
one-le-count k [] h = cc
one-le-count k (x ∷ xs) h = count_one (has_width_of k) x xs (is_at (net_cmp k) x) (list_any (is_at (net_cmp k)) xs) (has_width_of-equal k x) (one-le-count k xs) h

none_from : (o : Option (List ℕ)) (n : ℕ) → (is_some o ≡ true → 1 ≤ n) → n ≡ 0 → o ≡ None
none_from None n h w = refl
none_from (Some v) n h w = let e = h refl in absurd (omega arith)

-- no net of this width, and nothing under this net
pub at-none : (k : AnyNet) (es : List (AnyNet × List ℕ)) → count_by (has_width_of k) (keys_of es) ≡ 0 → at es k ≡ None
at-none k es h = none_from (at es k) (count_by (has_width_of k) (keys_of es)) (λ some. one-le-count k (keys_of es) (sym (is_some-lookup (is_at (net_cmp k)) es) ∙ some)) h
