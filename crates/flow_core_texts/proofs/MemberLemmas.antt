-- Members that are set in their places and members that are set in order have one canonical text.
use Rattle.std.proofs.Common.{◌≡◌, ℕ, List, [], ◌∷◌, Bool, true, false, Some, Ordering, Less, Equal, Greater, nat_cmp, refl, sym, ap, subst, ◌∙◌}
use Rattle.std.specs.Prelude.{fold, if◌then◌else◌}
use Rattle.std.specs.Option.{option_map_or}
use Rattle.std.specs.Ordering.{match_ordering, ordering_reverse, is_lt}
use Rattle.std.specs.Cmp.Lexicographic.{slice_cmp}
use Rattle.std.specs.Str.{bytes_eq, IsAscii}
use Rattle.std.proofs.lemmas.Cmp.{nat_list_cmp_total, tied_itself}
use Rattle.std.proofs.lemmas.Map.Lookups.{exact_bytes}
use Rattle.std.proofs.lemmas.Slice.Eq.{bytes_eq-Decides}
use Rattle.serde_json.specs.Data.{Data, Members, no_members, member, put}
use Rattle.serde_json.specs.Find.{get_member}
use Rattle.cacao_json.specs.Tree.{without}
use Rattle.cacao_json.specs.Profile.{IsBelow, AreSortedMembers}
use Rattle.cacao_text.specs.Canon.{canon, units, comes_before, insert_named, named_texts}
use Rattle.flow_core_rules.specs.Filled.{with_member}
use Rattle.flow_core_texts.proofs.UnitLemmas.{told_apart}

abbrev compare : List ℕ → List ℕ → Ordering
compare k l = slice_cmp nat_cmp k l

abbrev pub Named : Type 0
Named = List ℕ × List ℕ

abbrev pub name : Named → List ℕ
name m = m.0

abbrev pub place : Named → List Named → List Named
place m ms = insert_named name m ms

-- ---- two that are placed

less_of : (o : Ordering) → is_lt o ≡ true → o ≡ Less
less_of Less e = refl
less_of Equal e = absurd (cc)
less_of Greater e = absurd (cc)

before_by : (a b : Bool) (x y n : Named) (ns : List Named) → comes_before x.0 y.0 ≡ true → comes_before y.0 x.0 ≡ false → comes_before x.0 n.0 ≡ a → comes_before y.0 n.0 ≡ b → (b ≡ true → a ≡ true)
    → place x (place y ns) ≡ place y (place x ns) → place x (place y (n ∷ ns)) ≡ place y (place x (n ∷ ns))
before_by true true x y n ns xy yx xn yn f ih = simp (xn, yn, xy, yx) refl
before_by true false x y n ns xy yx xn yn f ih = simp (xn, yn, yx) refl
before_by false true x y n ns xy yx xn yn f ih = absurd (cc (f refl))
before_by false false x y n ns xy yx xn yn f ih = simp (xn, yn, ih) refl

before : (x y : Named) (ns : List Named) → compare (units x.0) (units y.0) ≡ Less → compare (units y.0) (units x.0) ≡ Greater → place x (place y ns) ≡ place y (place x ns)
before x y [] xy yx = simp (xy, yx) refl
before x y (n ∷ ns) xy yx =
    before_by (comes_before x.0 n.0) (comes_before y.0 n.0) x y n ns (ap is_lt xy) (ap is_lt yx) refl refl
    (λ yn. ap is_lt (nat_list_cmp_total.trans (units x.0) (units y.0) (units n.0) xy (less_of (compare (units y.0) (units n.0)) yn)))
    (before x y ns xy yx)

by_order : (o : Ordering) (x y : Named) (ns : List Named) → compare (units x.0) (units y.0) ≡ o → (units x.0 ≡ units y.0 → ⊥) → place x (place y ns) ≡ place y (place x ns)
by_order Less x y ns h apart = before x y ns h (nat_list_cmp_total.antisymm (units y.0) (units x.0) ∙ ap ordering_reverse h)
by_order Equal x y ns h apart = absurd (apart (exact_bytes (units x.0) (units y.0) h))
by_order Greater x y ns h apart = sym (before y x ns (nat_list_cmp_total.antisymm (units y.0) (units x.0) ∙ ap ordering_reverse h) h)

-- two names that differ can be placed in either order
either : (x y : Named) (ns : List Named) → (units x.0 ≡ units y.0 → ⊥) → place x (place y ns) ≡ place y (place x ns)
either x y ns apart = by_order (compare (units x.0) (units y.0)) x y ns refl apart

-- ---- members that have, or lack, a name

-- no other name has its units
abbrev pub IsTold : List ℕ → Members → Type 0
IsTold k no_members = Unit {0}
IsTold k (member l d ms) = (units k ≡ units l → k ≡ l) × IsTold k ms

abbrev pub Lacks : List ℕ → Members → Type 0
Lacks k no_members = Unit {0}
Lacks k (member l d ms) = (k ≡ l → ⊥) × Lacks k ms

abbrev pub IsOnce : List ℕ → Members → Type 0
IsOnce k no_members = Unit {0}
IsOnce k (member l d ms) = (k ≡ l → Lacks k ms) × IsOnce k ms

-- the texts of members, placed among those that stand
abbrev pub placed : List Named → Members → List Named
placed s ms = fold (λ sorted m. place m sorted) s (named_texts ms)

through : (x : Named) (ms : Members) (s : List Named) → IsTold x.0 ms → Lacks x.0 ms → placed (place x s) ms ≡ place x (placed s ms)
through x no_members s t w = refl
through x (member l d ms) s t w =
    ap (λ s. placed s ms) (sym (either x (l, canon d) s (λ e. w.0 (t.0 e)))) ∙ through x ms (place (l, canon d) s) t.1 w.1

-- ---- tests of names

pub differs : (k l : List ℕ) → (k ≡ l → ⊥) → bytes_eq k l ≡ false
differs k l h = by (bytes_eq k l) refl
  where
    by : (b : Bool) → bytes_eq k l ≡ b → b ≡ false
    by true e = absurd (h ((bytes_eq-Decides k l).0 e))
    by false e = refl

pub itself : (k : List ℕ) → bytes_eq k k ≡ true
itself k = (bytes_eq-Decides k k).1 refl

pub other_name : (k l : List ℕ) → bytes_eq k l ≡ false → k ≡ l → ⊥
other_name k l e same = cc (sym ((bytes_eq-Decides k l).1 same) ∙ e)

pub without_other : (k l : List ℕ) (d : Data) (ms : Members) → (k ≡ l → ⊥) → without k (member l d ms) ≡ member l d (without k ms)
without_other k l d ms h = ap (λ b. if b then without k ms else member l d (without k ms)) (differs k l h)

pub without_itself : (k : List ℕ) (d : Data) (ms : Members) → without k (member k d ms) ≡ without k ms
without_itself k d ms = ap (λ b. if b then without k ms else member k d (without k ms)) (itself k)

pub without_lacking : (k : List ℕ) (ms : Members) → Lacks k ms → without k ms ≡ ms
without_lacking k no_members w = refl
without_lacking k (member l d ms) w = without_other k l d ms w.0 ∙ ap (member l d) (without_lacking k ms w.1)

get_by : (o : Ordering) (k l : List ℕ) (d : Data) (ms : Members) → compare k l ≡ o → get_member k (member l d ms) ≡ match_ordering o (get_member k ms) (Some d) (get_member k ms)
get_by o k l d ms h = ap (λ o. match_ordering o (get_member k ms) (Some d) (get_member k ms)) h

pub get_itself : (k : List ℕ) (d : Data) (ms : Members) → get_member k (member k d ms) ≡ Some d
get_itself k d ms = get_by Equal k k d ms (tied_itself nat_list_cmp_total k)

pub get_other : (k l : List ℕ) (d : Data) (ms : Members) → (k ≡ l → ⊥) → get_member k (member l d ms) ≡ get_member k ms
get_other k l d ms h = by (compare k l) refl
  where
    by : (o : Ordering) → compare k l ≡ o → get_member k (member l d ms) ≡ get_member k ms
    by Less e = get_by Less k l d ms e
    by Equal e = absurd (h (exact_bytes k l e))
    by Greater e = get_by Greater k l d ms e

pub with_itself : (k : List ℕ) (f : Data → Data) (new d : Data) (ms : Members) → with_member k f new (member k d ms) ≡ member k (f d) ms
with_itself k f new d ms = ap (λ b. if b then member k (f d) ms else member k d (with_member k f new ms)) (itself k)

pub with_other : (k l : List ℕ) (f : Data → Data) (new d : Data) (ms : Members) → (l ≡ k → ⊥) → with_member k f new (member l d ms) ≡ member l d (with_member k f new ms)
with_other k l f new d ms h = ap (λ b. if b then member l (f d) ms else member l d (with_member k f new ms)) (differs l k h)

-- ---- a member that is set as the rules say

-- it stands where it is placed last
pub with_placed : (k : List ℕ) (f : Data → Data) (new : Data) (ms : Members) (s : List Named) → IsTold k ms → IsOnce k ms
    → placed s (with_member k f new ms) ≡ place (k, canon (option_map_or f (get_member k ms) new)) (placed s (without k ms))
with_placed k f new no_members s t w = refl
with_placed k f new (member l d ms) s t w = by (bytes_eq l k) refl (with_placed k f new ms (place (l, canon d) s) t.1 w.1)
  where
    same : (l : List ℕ) → l ≡ k → (IsTold k ms) → (Lacks k ms)
        → placed s (with_member k f new (member l d ms)) ≡ place (k, canon (option_map_or f (get_member k (member l d ms)) new)) (placed s (without k (member l d ms)))
    same l e t w = subst (λ (l : List ℕ). placed s (with_member k f new (member l d ms)) ≡ place (k, canon (option_map_or f (get_member k (member l d ms)) new)) (placed s (without k (member l d ms)))) (sym e) (
        ap (placed s) (with_itself k f new d ms) ∙ through (k, canon (f d)) ms s t w
        ∙ sym (ap (λ o. place (k, canon (option_map_or f o new)) (placed s (without k (member k d ms)))) (get_itself k d ms)
        ∙ ap (λ x. place (k, canon (f d)) (placed s x)) (without_itself k d ms ∙ without_lacking k ms w)))

    by : (b : Bool) → bytes_eq l k ≡ b
        → placed (place (l, canon d) s) (with_member k f new ms) ≡ place (k, canon (option_map_or f (get_member k ms) new)) (placed (place (l, canon d) s) (without k ms))
        → placed s (with_member k f new (member l d ms)) ≡ place (k, canon (option_map_or f (get_member k (member l d ms)) new)) (placed s (without k (member l d ms)))
    by true e ih = same l ((bytes_eq-Decides l k).0 e) t.1 (w.0 (sym ((bytes_eq-Decides l k).0 e)))
    by false e ih =
        let apart = other_name l k e in
        ap (placed s) (with_other k l f new d ms apart) ∙ ih
        ∙ sym (ap (λ o. place (k, canon (option_map_or f o new)) (placed s (without k (member l d ms)))) (get_other k l d ms (λ e. apart (sym e)))
        ∙ ap (λ x. place (k, canon (option_map_or f (get_member k ms) new)) (placed s x)) (without_other k l d ms (λ e. apart (sym e))))

-- ---- a member that is put

-- a name that is below the first is below all
lacks_below : (k : List ℕ) (ms : Members) → IsBelow k ms → AreSortedMembers ms → Lacks k ms
lacks_below k no_members b h = tt
lacks_below k (member l d ms) b h = (λ e. cc (sym (tied_itself nat_list_cmp_total k) ∙ ap (compare k) e ∙ b), lacks_below k ms (below_rest ms h.2) h.3)
  where
    below_rest : (ms : Members) → IsBelow l ms → IsBelow k ms
    below_rest no_members w = tt
    below_rest (member m e ms) w = nat_list_cmp_total.trans k l m b w

put_by : (o : Ordering) (k l : List ℕ) (d e : Data) (ms : Members) → compare k l ≡ o → put k d (member l e ms) ≡ match_ordering o (member k d (member l e ms)) (member l d ms) (member l e (put k d ms))
put_by o k l d e ms h = ap (λ o. match_ordering o (member k d (member l e ms)) (member l d ms) (member l e (put k d ms))) h

pub put_placed : (k : List ℕ) (d : Data) (ms : Members) (s : List Named) → IsTold k ms → AreSortedMembers ms → placed s (put k d ms) ≡ place (k, canon d) (placed s (without k ms))
put_placed k d no_members s t w = refl
put_placed k d (member l e ms) s t w = by (compare k l) refl (put_placed k d ms (place (l, canon e) s) t.1 w.3)
  where
    same : (l : List ℕ) → k ≡ l → IsTold k ms → Lacks k ms → placed s (put k d (member l e ms)) ≡ place (k, canon d) (placed s (without k (member l e ms)))
    same l eq t w = subst (λ (l : List ℕ). placed s (put k d (member l e ms)) ≡ place (k, canon d) (placed s (without k (member l e ms)))) eq (
        ap (placed s) (put_by Equal k k d e ms (tied_itself nat_list_cmp_total k)) ∙ through (k, canon d) ms s t w
        ∙ sym (ap (λ x. place (k, canon d) (placed s x)) (without_itself k e ms ∙ without_lacking k ms w)))

    by : (o : Ordering) → compare k l ≡ o → placed (place (l, canon e) s) (put k d ms) ≡ place (k, canon d) (placed (place (l, canon e) s) (without k ms))
        → placed s (put k d (member l e ms)) ≡ place (k, canon d) (placed s (without k (member l e ms)))
    by Less h ih =
        let lacks : Lacks k (member l e ms) = lacks_below k (member l e ms) h w in
        ap (placed s) (put_by Less k l d e ms h) ∙ through (k, canon d) (member l e ms) s t lacks
        ∙ sym (ap (λ x. place (k, canon d) (placed s x)) (without_lacking k (member l e ms) lacks))
    by Equal h ih = same l (exact_bytes k l h) t.1 (subst (λ (x : List ℕ). Lacks x ms) (sym (exact_bytes k l h)) (lacks_below l ms w.2 w.3))
    by Greater h ih =
        let apart : k ≡ l → ⊥ = λ e. cc (sym (tied_itself nat_list_cmp_total k) ∙ ap (compare k) e ∙ h) in
        ap (placed s) (put_by Greater k l d e ms h) ∙ ih
        ∙ sym (ap (λ x. place (k, canon d) (placed s x)) (without_other k l e ms apart))

-- ---- what members have

pub told_sorted : (k : List ℕ) (ms : Members) → IsAscii k → AreSortedMembers ms → IsTold k ms
told_sorted k no_members a w = tt
told_sorted k (member l d ms) a w = (told_apart k l a w.0, told_sorted k ms a w.3)

pub once_sorted : (k : List ℕ) (ms : Members) → AreSortedMembers ms → IsOnce k ms
once_sorted k no_members w = tt
once_sorted k (member l d ms) w = (λ e. subst (λ (x : List ℕ). Lacks x ms) (sym e) (lacks_below l ms w.2 w.3), once_sorted k ms w.3)

pub lacks_without : (k : List ℕ) (ms : Members) → Lacks k (without k ms)
lacks_without k no_members = tt
lacks_without k (member l d ms) = by (bytes_eq k l) refl (lacks_without k ms)
  where
    by : (b : Bool) → bytes_eq k l ≡ b → Lacks k (without k ms) → Lacks k (if b then without k ms else member l d (without k ms))
    by true e ih = ih
    by false e ih = (other_name k l e, ih)

lacks_by : (o : Ordering) (k : List ℕ) (x y z : Members) → Lacks k x → Lacks k y → Lacks k z → Lacks k (match_ordering o x y z)
lacks_by Less k x y z v w u = v
lacks_by Equal k x y z v w u = w
lacks_by Greater k x y z v w u = u

pub lacks_put : (k n : List ℕ) (d : Data) (ms : Members) → (k ≡ n → ⊥) → Lacks k ms → Lacks k (put n d ms)
lacks_put k n d no_members h w = (h, tt)
lacks_put k n d (member l e ms) h w = lacks_by (compare n l) k (member n d (member l e ms)) (member l d ms) (member l e (put n d ms)) (h, w) w (w.0, lacks_put k n d ms h w.1)

-- a member with another name is set
module _ (k n : List ℕ) (f : Data → Data) (new : Data) (apart : k ≡ n → ⊥) where
  set_by : (P : Members → Type 0) (b : Bool) (x y : Members) → P x → P y → P (if b then x else y)
  set_by P true x y v w = v
  set_by P false x y v w = w

  pub lacks_with : (ms : Members) → Lacks k ms → Lacks k (with_member n f new ms)
  lacks_with no_members w = (apart, tt)
  lacks_with (member l d ms) w = set_by (Lacks k) (bytes_eq l n) (member l (f d) ms) (member l d (with_member n f new ms)) w (w.0, lacks_with ms w.1)

  pub once_with : (ms : Members) → IsOnce k ms → IsOnce k (with_member n f new ms)
  once_with no_members w = (λ e. absurd (apart e), tt)
  once_with (member l d ms) w = set_by (IsOnce k) (bytes_eq l n) (member l (f d) ms) (member l d (with_member n f new ms)) w (λ e. lacks_with ms (w.0 e), once_with ms w.1)

  pub told_with : (ms : Members) → (units k ≡ units n → k ≡ n) → IsTold k ms → IsTold k (with_member n f new ms)
  told_with no_members t w = (t, tt)
  told_with (member l d ms) t w = set_by (IsTold k) (bytes_eq l n) (member l (f d) ms) (member l d (with_member n f new ms)) w (w.0, told_with ms t w.1)

  pub get_with : (ms : Members) → get_member k (with_member n f new ms) ≡ get_member k ms
  get_with no_members = get_other k n new no_members apart
  get_with (member l d ms) = by (bytes_eq l n) refl (get_with ms)
    where
      by : (b : Bool) → bytes_eq l n ≡ b → get_member k (with_member n f new ms) ≡ get_member k ms → get_member k (if b then member l (f d) ms else member l d (with_member n f new ms)) ≡ get_member k (member l d ms)
      by true e ih =
          let other : k ≡ l → ⊥ = λ same. apart (same ∙ (bytes_eq-Decides l n).0 e) in
          get_other k l (f d) ms other ∙ sym (get_other k l d ms other)
      by false e ih = ap (λ o. match_ordering (compare k l) o (Some d) o) ih

  pub without_with : (ms : Members) → without k (with_member n f new ms) ≡ with_member n f new (without k ms)
  without_with no_members = without_other k n new no_members apart
  without_with (member l d ms) = by (bytes_eq k l) refl (without_with ms)
    where
      both : (b : Bool) → bytes_eq l n ≡ b → (k ≡ l → ⊥) → without k (with_member n f new ms) ≡ with_member n f new (without k ms) → without k (if b then member l (f d) ms else member l d (with_member n f new ms)) ≡ (if b then member l (f d) (without k ms) else member l d (with_member n f new (without k ms)))
      both true e other ih = without_other k l (f d) ms other
      both false e other ih = without_other k l d (with_member n f new ms) other ∙ ap (member l d) ih

      by : (b : Bool) → bytes_eq k l ≡ b → without k (with_member n f new ms) ≡ with_member n f new (without k ms) → without k (with_member n f new (member l d ms)) ≡ with_member n f new (without k (member l d ms))
      by true e ih =
          let same : k ≡ l = (bytes_eq-Decides k l).0 e in
          let other : l ≡ n → ⊥ = λ w. apart (same ∙ w) in
          ap (without k) (with_other n l f new d ms other)
          ∙ ap (λ b. if b then without k (with_member n f new ms) else member l d (without k (with_member n f new ms))) e
          ∙ ih ∙ sym (ap (λ b. with_member n f new (if b then without k ms else member l d (without k ms))) e)
      by false e ih =
          let other : k ≡ l → ⊥ = other_name k l e in
          both (bytes_eq l n) refl other ih ∙ sym (ap (with_member n f new) (without_other k l d ms other))
