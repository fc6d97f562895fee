-- Names of ASCII that rise stand in the order of their units.
use Rattle.std.proofs.Common.{◌≡◌, ℕ, suc, ◌+◌, ◌-◌, ◌/◌, ◌%◌, ◌<◌, List, [], ◌∷◌, ◌++◌, length, drop, get_or, map, subst, false, Ordering, Less, Equal, Greater, nat_cmp, cond, refl, sym, ap, ap₂, ◌∙◌, arith}
use Rattle.std.specs.Prelude.{flat_map}
use Rattle.std.specs.Ordering.{is_lt, ordering_reverse}
use Rattle.std.specs.Cmp.Lexicographic.{slice_cmp}
use Rattle.std.specs.Char.Escape.{encode_utf16}
use Rattle.std.specs.Str.{IsAscii}
use Rattle.std.proofs.lemmas.Bool.{lt-ltb}
use Rattle.std.proofs.lemmas.Cmp.{nat_list_cmp_total}
use Rattle.std.proofs.lemmas.Map.Lookups.{exact_bytes}
use Rattle.std.proofs.lemmas.Str.{chars-IsAscii}
use Rattle.std.proofs.lemmas.List.{at_drop_more}
use Rattle.cacao_json.specs.declared.tree.Pair.{Pair}
use Rattle.cacao_json.specs.Tree.{pair_data}
use Rattle.cacao_json.specs.Profile.{IsBelow, AreSortedMembers}
use Rattle.cacao_text.specs.Canon.{units}
use Rattle.cacao_text.specs.Arranged.{NoneBefore, AreInOrder, pairs_data}

each_alone : (k : List ℕ) → IsAscii k → flat_map encode_utf16 k ≡ k
each_alone [] h = refl
each_alone (x ∷ k) h =
    let wide : x < 65536 = omega (arith, h 0) in
    ap (λ b. cond b (x ∷ []) ((0xD800 + (x - 0x10000) / 0x400) ∷ (0xDC00 + (x - 0x10000) % 0x400) ∷ []) ++ flat_map encode_utf16 k) (lt-ltb x 65536 wide)
    ∙ ap (λ l. x ∷ l) (each_alone k (λ i. h (suc i)))

pub units-IsAscii : (k : List ℕ) → IsAscii k → units k ≡ k
units-IsAscii k h = ap (flat_map encode_utf16) (chars-IsAscii k h) ∙ each_alone k h

abbrev compare : List ℕ → List ℕ → Ordering
compare k l = slice_cmp nat_cmp k l

above_by : (k b a : List ℕ) (p : Ordering) → is_lt (compare k b) ≡ false → is_lt p ≡ false → compare b a ≡ p → compare k a ≡ Less → ⊥
above_by k b a Less h w e below = absurd (cc)
above_by k b a Equal h w e below =
    let same : a ≡ b = sym (exact_bytes b a e) in
    let less : compare k b ≡ Less = ap (compare k) (sym same) ∙ below in
    absurd (cc (ap is_lt less ∙ refl))
above_by k b a Greater h w e below =
    let up : compare a b ≡ Less = nat_list_cmp_total.antisymm a b ∙ ap ordering_reverse e in
    let less = nat_list_cmp_total.trans k a b below up in
    absurd (cc (ap is_lt less))

not_less_by : (o : Ordering) → (o ≡ Less → ⊥) → is_lt o ≡ false
not_less_by Less h = absurd (h refl)
not_less_by Equal h = refl
not_less_by Greater h = refl

not_less : (k b a : List ℕ) → is_lt (compare k b) ≡ false → is_lt (compare b a) ≡ false → is_lt (compare k a) ≡ false
not_less k b a h w = not_less_by (compare k a) (above_by k b a (compare b a) h w refl)

-- the names are of ASCII, and each is at least the one before
abbrev AreRising : List ℕ → List (List ℕ) → Type 0
AreRising b [] = Unit {0}
AreRising b (k ∷ ks) = IsAscii k × (is_lt (slice_cmp nat_cmp k b) ≡ false) × AreRising k ks

none_before : (a b : List ℕ) (ks : List (List ℕ)) → IsAscii a → is_lt (compare b a) ≡ false → AreRising b ks → NoneBefore a ks
none_before a b [] i h w = tt
none_before a b (k ∷ ks) i h w =
    let at_least = not_less k b a w.1 h in
    (ap₂ (λ (x y : List ℕ). is_lt (compare x y)) (units-IsAscii k w.0) (units-IsAscii a i) ∙ at_least, none_before a k ks i at_least w.2)

itself : (k : List ℕ) → is_lt (compare k k) ≡ false
itself k = not_less_by (compare k k) (λ e. cc (nat_list_cmp_total.antisymm k k ∙ ap ordering_reverse e))

AreInOrder-AreRising : (b : List ℕ) (ks : List (List ℕ)) → AreRising b ks → AreInOrder ks
AreInOrder-AreRising b [] w = tt
AreInOrder-AreRising b (k ∷ ks) w = (none_before k k ks w.0 (itself k) w.2, AreInOrder-AreRising k ks w.2)

abbrev pub names : List Pair → List (List ℕ)
names ps = map (λ p. (pair_data p).0) ps

-- the names are of ASCII
abbrev pub AreAscii : List (List ℕ) → Type 0
AreAscii [] = Unit {0}
AreAscii (k ∷ ks) = IsAscii k × AreAscii ks

rising : (b : List ℕ) (ps : List Pair) → IsBelow b (pairs_data ps) → AreSortedMembers (pairs_data ps) → AreAscii (names ps) → AreRising b (names ps)
rising b [] below s a = tt
rising b (p ∷ ps) below s a =
    let k = (pair_data p).0 in
    let above : compare k b ≡ Greater = nat_list_cmp_total.antisymm k b ∙ ap ordering_reverse below in
    (a.0, ap is_lt above, rising k ps s.2 s.3 a.1)

-- names of ASCII stand in the order of their units
pub in_order_if_ascii : (ps : List Pair) → AreSortedMembers (pairs_data ps) → AreAscii (names ps) → AreInOrder (names ps)
in_order_if_ascii [] s a = tt
in_order_if_ascii (p ∷ ps) s a =
    let k = (pair_data p).0 in
    let w = rising k ps s.2 s.3 a.1 in
    (none_before k k (names ps) a.0 (itself k) w, AreInOrder-AreRising k (names ps) w)

-- one name more of ASCII
pub ascii_step : (name : List ℕ) (ps : List Pair) (i : ℕ) (p : Pair) → i < length ps → p ≡ get_or ps i p → name ≡ (pair_data p).0 → IsAscii name → AreAscii (names (drop (i + 1) ps)) → AreAscii (names (drop i ps))
ascii_step name ps i p below at same ascii w =
    let first : drop i ps ≡ p ∷ drop (i + 1) ps = at_drop_more (λ qs. qs) ps i p below ∙ ap (λ q. q ∷ drop (i + 1) ps) (sym at) in
    subst (λ qs. AreAscii (names qs)) (sym first) (subst (λ k. IsAscii k) same ascii, w)
