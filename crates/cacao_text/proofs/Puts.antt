-- Members put in any order stand in byte order.
use Rattle.std.proofs.Common.{◌≡◌, ℕ, List, [], ◌∷◌, Bool, true, false, Ordering, Less, Equal, Greater, nat_cmp, refl, sym, ap, ◌∙◌}
use Rattle.std.specs.Prelude.{fold, if◌then◌else◌}
use Rattle.std.specs.Ordering.{match_ordering, ordering_reverse}
use Rattle.std.specs.Cmp.Lexicographic.{slice_cmp}
use Rattle.std.proofs.lemmas.Cmp.{nat_list_cmp_total, tied_itself}
use Rattle.std.proofs.lemmas.Map.Lookups.{exact_bytes}
use Rattle.serde_json.specs.Data.{Data, Members, no_members, member, put}
use Rattle.cacao_json.specs.Profile.{IsBelow}
use Rattle.cacao_text.specs.Canon.{comes_before, insert_named, in_order}
use Rattle.cacao_text.proofs.Sorting.{Each, Each-insert_named}

abbrev compare : List ℕ → List ℕ → Ordering
compare k l = slice_cmp nat_cmp k l

below_cases : (k l m : List ℕ) (d e x : Data) (ms : Members) → compare k l ≡ Less → compare l k ≡ Greater → (a b : Ordering) → compare k m ≡ a → compare l m ≡ b → (b ≡ Less → a ≡ Less) → (b ≡ Equal → a ≡ Less)
    → put k d (put l e ms) ≡ put l e (put k d ms) → put k d (put l e (member m x ms)) ≡ put l e (put k d (member m x ms))
below_cases k l m d e x ms kl lk Less Less ea eb f g ih = simp (ea, eb, kl, lk) refl
below_cases k l m d e x ms kl lk Equal Less ea eb f g ih = absurd (cc (f refl))
below_cases k l m d e x ms kl lk Greater Less ea eb f g ih = absurd (cc (f refl))
below_cases k l m d e x ms kl lk Less Equal ea eb f g ih = simp (ea, eb, kl, lk) refl
below_cases k l m d e x ms kl lk Equal Equal ea eb f g ih = absurd (cc (g refl))
below_cases k l m d e x ms kl lk Greater Equal ea eb f g ih = absurd (cc (g refl))
below_cases k l m d e x ms kl lk Less Greater ea eb f g ih = simp (ea, eb, kl, lk) refl
below_cases k l m d e x ms kl lk Equal Greater ea eb f g ih = simp (ea, eb, kl, lk) refl
below_cases k l m d e x ms kl lk Greater Greater ea eb f g ih = simp (ea, eb, ih) refl

put_below : (k l : List ℕ) (d e : Data) (ms : Members) → compare k l ≡ Less → compare l k ≡ Greater → put k d (put l e ms) ≡ put l e (put k d ms)
put_below k l d e no_members kl lk = simp (kl, lk) refl
put_below k l d e (member m x ms) kl lk =
    below_cases k l m d e x ms kl lk (compare k m) (compare l m) refl refl
    (λ lm. nat_list_cmp_total.trans k l m kl lm)
    (λ lm. nat_list_cmp_total.antisymm k m ∙ ap ordering_reverse (sym (nat_list_cmp_total.congr l m k lm)) ∙ ap ordering_reverse lk)
    (put_below k l d e ms kl lk)

by_order : (o : Ordering) (k l : List ℕ) (d e : Data) (ms : Members) → compare k l ≡ o → (k ≡ l → ⊥) → put k d (put l e ms) ≡ put l e (put k d ms)
by_order Less k l d e ms h apart = put_below k l d e ms h (nat_list_cmp_total.antisymm l k ∙ ap ordering_reverse h)
by_order Equal k l d e ms h apart = absurd (apart (exact_bytes k l h))
by_order Greater k l d e ms h apart = sym (put_below l k e d ms (nat_list_cmp_total.antisymm l k ∙ ap ordering_reverse h) h)

-- two names that differ can be put in either order
put_commute : (k l : List ℕ) (d e : Data) (ms : Members) → (k ≡ l → ⊥) → put k d (put l e ms) ≡ put l e (put k d ms)
put_commute k l d e ms apart = by_order (compare k l) k l d e ms refl apart

-- ---- lists of members

abbrev pub Named : Type 0
Named = List ℕ × Data

abbrev name : Named → List ℕ
name m = m.0

abbrev pub pairs_of : Members → List Named
pairs_of no_members = []
pairs_of (member k d ms) = (k, d) ∷ pairs_of ms

-- the members put in one after another
abbrev pub put_all : List Named → Members → Members
put_all [] found = found
put_all (m ∷ ms) found = put_all ms (put m.0 m.1 found)

apart : (k l : List ℕ) → compare k l ≡ Less → l ≡ k → ⊥
apart k l less same = cc (sym (tied_itself nat_list_cmp_total k) ∙ ap (compare k) (sym same) ∙ less)

abbrev AreBelow : List ℕ → List Named → Type 0
AreBelow k ms = Each (λ m. compare m.0 k ≡ Less) ms

put_if : (b : Bool) (x y : List Named) (found whole : Members) → put_all x found ≡ whole → put_all y found ≡ whole → put_all (if b then x else y) found ≡ whole
put_if true x y found whole e f = e
put_if false x y found whole e f = f

-- placing a greater name puts it
put_all-insert_named : (m : Named) (ms : List Named) (found : Members) → AreBelow m.0 ms → put_all (insert_named name m ms) found ≡ put_all ms (put m.0 m.1 found)
put_all-insert_named m [] found w = refl
put_all-insert_named m (n ∷ ns) found w =
    put_if (comes_before m.0 n.0) (m ∷ n ∷ ns) (n ∷ insert_named name m ns) found _ refl
    (put_all-insert_named m ns (put n.0 n.1 found) w.1 ∙ ap (put_all ns) (put_commute m.0 n.0 m.1 n.1 found (λ e. apart n.0 m.0 w.0 e)))

put_all-put : (ms : List Named) (k : List ℕ) (d : Data) (found : Members) → AreBelow k ms → put_all ms (put k d found) ≡ put k d (put_all ms found)
put_all-put [] k d found w = refl
put_all-put (m ∷ ms) k d found w = ap (put_all ms) (sym (put_commute k m.0 d m.1 found (λ e. apart m.0 k w.0 e))) ∙ put_all-put ms k d (put m.0 m.1 found) w.1

abbrev pub AreRising : Members → Type 0
AreRising no_members = Unit {0}
AreRising (member k d ms) = IsBelow k ms × AreRising ms

abbrev AreBelowFirst : List Named → Members → Type 0
AreBelowFirst sorted no_members = Unit {0}
AreBelowFirst sorted (member k d ms) = AreBelow k sorted

below_more : (k l : List ℕ) (sorted : List Named) → compare k l ≡ Less → AreBelow k sorted → AreBelow l sorted
below_more k l [] h w = tt
below_more k l (m ∷ ms) h w = (nat_list_cmp_total.trans m.0 k l w.0 h, below_more k l ms h w.1)

below_next : (k : List ℕ) (d : Data) (ms : Members) (sorted : List Named) → IsBelow k ms → AreBelow k sorted → AreBelowFirst (insert_named name (k, d) sorted) ms
below_next k d no_members sorted h w = tt
below_next k d (member l e ms) sorted h w = Each-insert_named (λ m. compare m.0 l ≡ Less) name (k, d) sorted h (below_more k l sorted h w)

put_all-fold : (ms : Members) (sorted : List Named) (found : Members) → AreRising ms → AreBelowFirst sorted ms → put_all (fold (λ s m. insert_named name m s) sorted (pairs_of ms)) found ≡ put_all (pairs_of ms) (put_all sorted found)
put_all-fold no_members sorted found h w = refl
put_all-fold (member k d ms) sorted found h w =
    put_all-fold ms (insert_named name (k, d) sorted) found h.1 (below_next k d ms sorted h.0 w)
    ∙ ap (put_all (pairs_of ms)) (put_all-insert_named (k, d) sorted found w ∙ put_all-put sorted k d found w)

-- ---- members in byte order are those that are put

put_first : (k : List ℕ) (d : Data) (ms : Members) → IsBelow k ms → put k d ms ≡ member k d ms
put_first k d no_members h = refl
put_first k d (member l e ms) h = ap (λ o. match_ordering o (member k d (member l e ms)) (member l d ms) (member l e (put k d ms))) h

abbrev AreAbove : List ℕ → List Named → Type 0
AreAbove k ms = Each (λ m. compare k m.0 ≡ Less) ms

above_more : (k l : List ℕ) (ms : List Named) → compare k l ≡ Less → AreAbove l ms → AreAbove k ms
above_more k l [] h w = tt
above_more k l (m ∷ ms) h w = (nat_list_cmp_total.trans k l m.0 h w.0, above_more k l ms h w.1)

above_first : (k : List ℕ) (ms : Members) → IsBelow k ms → AreRising ms → AreAbove k (pairs_of ms)
above_first k no_members h w = tt
above_first k (member l e ms) h w = (h, above_more k l (pairs_of ms) h (above_first l ms w.0 w.1))

put_all-put_above : (ms : List Named) (k : List ℕ) (d : Data) (found : Members) → AreAbove k ms → put_all ms (put k d found) ≡ put k d (put_all ms found)
put_all-put_above [] k d found w = refl
put_all-put_above (m ∷ ms) k d found w = ap (put_all ms) (put_commute m.0 k m.1 d found (λ e. apart k m.0 w.0 e)) ∙ put_all-put_above ms k d (put m.0 m.1 found) w.1

put_all-pairs_of : (ms : Members) → AreRising ms → put_all (pairs_of ms) no_members ≡ ms
put_all-pairs_of no_members h = refl
put_all-pairs_of (member k d ms) h =
    put_all-put_above (pairs_of ms) k d no_members (above_first k ms h.0 h.1) ∙ ap (put k d) (put_all-pairs_of ms h.1) ∙ put_first k d ms h.0

-- sorted by units and then put, they are the members
pub put_all-in_order : (ms : Members) → AreRising ms → put_all (in_order name (pairs_of ms)) no_members ≡ ms
put_all-in_order ms h = put_all-fold ms [] no_members h (start ms) ∙ put_all-pairs_of ms h
  where
    start : (ms : Members) → AreBelowFirst [] ms
    start no_members = tt
    start (member k d ms) = tt
