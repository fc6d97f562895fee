-- Members at their places: the search, and what is put, found and left out there.
use Rattle.std.proofs.Common.{◌≡◌, ℕ, zero, suc, ◌+◌, ◌<◌, ◌≤◌, List, [], ◌∷◌, length, get_or, set, Bool, true, false, Some, None, Result, Ok, Err, Ordering, Less, Equal, Greater, nat_cmp, inl, inr, ◌⊎◌, refl, sym, ap, subst, ◌∙◌, arith}
use Rattle.std.specs.Prelude.{if◌then◌else◌}
use Rattle.std.specs.List.{insert, remove}
use Rattle.std.specs.Ordering.{match_ordering, ordering_reverse, is_eq}
use Rattle.std.specs.Cmp.Lexicographic.{slice_cmp}
use Rattle.std.specs.Str.{bytes_eq}
use Rattle.std.proofs.lemmas.Bool.{cases_lt}
use Rattle.std.proofs.lemmas.Cmp.{nat_list_cmp_total, tied_itself}
use Rattle.std.proofs.lemmas.Map.Lookups.{exact_bytes}
use Rattle.std.proofs.lemmas.Map.Text.{is_eq-slice_cmp}
use Rattle.serde_json.specs.Data.{Data, Members, no_members, member, put}
use Rattle.serde_json.specs.Find.{get_member}
use Rattle.cacao_json.specs.declared.tree.Pair.{Pair}
use Rattle.cacao_json.specs.Tree.{data_of, pairs_data, without}
use Rattle.cacao_json.specs.Profile.{IsBelow, AreSortedMembers}
use Rattle.cacao_json.specs.Places.{AreBefore, AreBehind, IsPlace}

abbrev compare : List ℕ → List ℕ → Ordering
compare k l = slice_cmp nat_cmp k l

reversed : (k l : List ℕ) (o : Ordering) → compare k l ≡ o → compare l k ≡ ordering_reverse o
reversed k l o e = nat_list_cmp_total.antisymm l k ∙ ap ordering_reverse e

-- ---- the names rise

below_all : (k : List ℕ) (ps : List Pair) → IsBelow k (pairs_data ps) → AreSortedMembers (pairs_data ps) → (j : ℕ) (p : Pair) → j < length ps → compare k (get_or ps j p).name ≡ Less
below_all k [] b s j p h = absurd (omega arith)
below_all k (q ∷ ps) b s zero p h = b
below_all k (q ∷ ps) b s (suc j) p h = nat_list_cmp_total.trans k q.name (get_or ps j p).name b (below_all q.name ps s.2 s.3 j p (omega arith))

rising : (ps : List Pair) → AreSortedMembers (pairs_data ps) → (i j : ℕ) (p : Pair) → i < j → j < length ps → compare (get_or ps i p).name (get_or ps j p).name ≡ Less
rising [] s i j p h w = absurd (omega arith)
rising (q ∷ ps) s i zero p h w = absurd (omega arith)
rising (q ∷ ps) s zero (suc j) p h w = below_all q.name ps s.2 s.3 j p (omega arith)
rising (q ∷ ps) s (suc i) (suc j) p h w = rising ps s.3 i j p (omega arith) (omega arith)

-- ---- the search

at_any : (ps : List Pair) (i : ℕ) (p q : Pair) → i < length ps → get_or ps i p ≡ get_or ps i q
at_any [] i p q h = absurd (omega arith)
at_any (r ∷ ps) zero p q h = refl
at_any (r ∷ ps) (suc i) p q h = at_any ps i p q (omega arith)

here : (ps : List Pair) (k : List ℕ) (i : ℕ) (p q : Pair) (o : Ordering) → i < length ps → p ≡ get_or ps i p → compare k p.name ≡ o → compare k (get_or ps i q).name ≡ o
here ps k i p q o within at h = subst (λ (r : Pair). compare k r.name ≡ o) (at ∙ at_any ps i p q within) h

module _ (ps : List Pair) (sorted : AreSortedMembers (pairs_data ps)) (k : List ℕ) (i : ℕ) (p : Pair) (within : i < length ps) (at : p ≡ get_or ps i p) where
  below_by : compare k p.name ≡ Greater → (j : ℕ) (q : Pair) → (j < i) ⊎ (i ≤ j) → j < i + 1 → compare k (get_or ps j q).name ≡ Greater
  below_by h j q (inl below) w =
      let less = nat_list_cmp_total.trans (get_or ps j q).name (get_or ps i q).name k (rising ps sorted j i q below within) (reversed k (get_or ps i q).name Greater (here ps k i p q Greater within at h)) in
      reversed (get_or ps j q).name k Less less
  below_by h j q (inr past) w =
      let same : i ≡ j = omega arith in
      subst (λ n. compare k (get_or ps n q).name ≡ Greater) same (here ps k i p q Greater within at h)

  -- a name that is greater than that at i is greater than all before
  pub before_more : compare k p.name ≡ Greater → AreBefore k ps (i + 1)
  before_more h j q w = below_by h j q (cases_lt j i) w

  behind_by : compare k p.name ≡ Less → (j : ℕ) (q : Pair) → (i < j) ⊎ (j ≤ i) → i ≤ j → j < length ps → compare k (get_or ps j q).name ≡ Less
  behind_by h j q (inl past) g w = nat_list_cmp_total.trans k (get_or ps i q).name (get_or ps j q).name (here ps k i p q Less within at h) (rising ps sorted i j q past w)
  behind_by h j q (inr not_past) g w =
      let same : i ≡ j = omega arith in
      subst (λ n. compare k (get_or ps n q).name ≡ Less) same (here ps k i p q Less within at h)

  -- one that is less is less than all behind
  pub behind_more : compare k p.name ≡ Less → AreBehind k ps i
  behind_more h j q g w = behind_by h j q (cases_lt i j) g w

  -- and one that is equal stands there
  pub place_equal : compare k p.name ≡ Equal → IsPlace k ps (Ok i)
  place_equal h =
      let named : (q : Pair) → (get_or ps i q).name ≡ k = λ q. sym (exact_bytes k (get_or ps i q).name (here ps k i p q Equal within at h)) in (
        within,
        (λ j q w. subst (λ x. compare x (get_or ps j q).name ≡ Greater) (named q) (reversed (get_or ps j q).name (get_or ps i q).name Less (rising ps sorted j i q w within))),
        named,
        (λ j q g w. subst (λ x. compare x (get_or ps j q).name ≡ Less) (named q) (rising ps sorted i j q (omega arith) w)),
      )

-- ---- what is put

before_tail : (k : List ℕ) (q : Pair) (ps : List Pair) (i : ℕ) → AreBefore k (q ∷ ps) (suc i) → AreBefore k ps i
before_tail k q ps i w j p h = w (suc j) p (omega arith)

put_greater : (k : List ℕ) (d e : Data) (l : List ℕ) (ms : Members) → compare k l ≡ Greater → put k d (member l e ms) ≡ member l e (put k d ms)
put_greater k d e l ms h = ap (λ o. match_ordering o (member k d (member l e ms)) (member l d ms) (member l e (put k d ms))) h

put_less : (k : List ℕ) (d e : Data) (l : List ℕ) (ms : Members) → compare k l ≡ Less → put k d (member l e ms) ≡ member k d (member l e ms)
put_less k d e l ms h = ap (λ o. match_ordering o (member k d (member l e ms)) (member l d ms) (member l e (put k d ms))) h

put_equal : (k : List ℕ) (d e : Data) (l : List ℕ) (ms : Members) → compare k l ≡ Equal → put k d (member l e ms) ≡ member l d ms
put_equal k d e l ms h = ap (λ o. match_ordering o (member k d (member l e ms)) (member l d ms) (member l e (put k d ms))) h

equal_itself : (k l : List ℕ) → l ≡ k → compare k l ≡ Equal
equal_itself k l e = subst (λ x. compare k x ≡ Equal) (sym e) (tied_itself nat_list_cmp_total k)

-- over the member at its place
pub put-set : (ps : List Pair) (i : ℕ) (p : Pair) → i < length ps → AreBefore p.name ps i → ((q : Pair) → (get_or ps i q).name ≡ p.name) → pairs_data (set ps i p) ≡ put p.name (data_of p.tree) (pairs_data ps)
put-set [] i p h w n = absurd (omega arith)
put-set (q ∷ ps) zero p h w n = ap (λ k. member k (data_of p.tree) (pairs_data ps)) (sym (n p)) ∙ sym (put_equal p.name (data_of p.tree) (data_of q.tree) q.name (pairs_data ps) (equal_itself p.name q.name (n p)))
put-set (q ∷ ps) (suc i) p h w n =
    ap (member q.name (data_of q.tree)) (put-set ps i p (omega arith) (before_tail p.name q ps i w) n)
    ∙ sym (put_greater p.name (data_of p.tree) (data_of q.tree) q.name (pairs_data ps) (w zero p (omega arith)))

-- in the gap for it
pub put-insert : (ps : List Pair) (i : ℕ) (p : Pair) → i ≤ length ps → AreBefore p.name ps i → AreBehind p.name ps i → pairs_data (insert ps i p) ≡ put p.name (data_of p.tree) (pairs_data ps)
put-insert [] zero p h w v = refl
put-insert [] (suc i) p h w v = absurd (omega arith)
put-insert (q ∷ ps) zero p h w v = sym (put_less p.name (data_of p.tree) (data_of q.tree) q.name (pairs_data ps) (v zero p (omega arith) (omega arith)))
put-insert (q ∷ ps) (suc i) p h w v =
    ap (member q.name (data_of q.tree)) (put-insert ps i p (omega arith) (before_tail p.name q ps i w) (λ j r g l. v (suc j) r (omega arith) (omega arith)))
    ∙ sym (put_greater p.name (data_of p.tree) (data_of q.tree) q.name (pairs_data ps) (w zero p (omega arith)))

-- ---- what is found

get_at : (o : Ordering) (k l : List ℕ) (e : Data) (ms : Members) → compare k l ≡ o → get_member k (member l e ms) ≡ match_ordering o (get_member k ms) (Some e) (get_member k ms)
get_at o k l e ms h = ap (λ o. match_ordering o (get_member k ms) (Some e) (get_member k ms)) h

pub found : (k : List ℕ) (ps : List Pair) (i : ℕ) (p : Pair) → i < length ps → AreBefore k ps i → ((q : Pair) → (get_or ps i q).name ≡ k) → p ≡ get_or ps i p → get_member k (pairs_data ps) ≡ Some (data_of p.tree)
found k [] i p h w n e = absurd (omega arith)
found k (q ∷ ps) zero p h w n e = get_at Equal k q.name (data_of q.tree) (pairs_data ps) (equal_itself k q.name (n p)) ∙ ap (λ r. Some (data_of r.tree)) (sym e)
found k (q ∷ ps) (suc i) p h w n e = get_at Greater k q.name (data_of q.tree) (pairs_data ps) (w zero p (omega arith)) ∙ found k ps i p (omega arith) (before_tail k q ps i w) n e

pub none_behind : (k : List ℕ) (ps : List Pair) → AreBehind k ps 0 → get_member k (pairs_data ps) ≡ None
none_behind k [] v = refl
none_behind k (q ∷ ps) v = get_at Less k q.name (data_of q.tree) (pairs_data ps) (v zero q (omega arith) (omega arith)) ∙ none_behind k ps (λ j p g l. v (suc j) p (omega arith) (omega arith))

pub none_found : (k : List ℕ) (ps : List Pair) (i : ℕ) → i ≤ length ps → AreBefore k ps i → AreBehind k ps i → get_member k (pairs_data ps) ≡ None
none_found k ps zero h w v = none_behind k ps v
none_found k [] (suc i) h w v = absurd (omega arith)
none_found k (q ∷ ps) (suc i) h w v =
    get_at Greater k q.name (data_of q.tree) (pairs_data ps) (w zero q (omega arith)) ∙ none_found k ps i (omega arith) (before_tail k q ps i w) (λ j p g l. v (suc j) p (omega arith) (omega arith))

-- ---- what is left out

keep_other : (b : Bool) (x y : Members) → b ≡ false → (if b then x else y) ≡ y
keep_other true x y e = absurd (cc)
keep_other false x y e = refl

leave_out : (b : Bool) (x y : Members) → b ≡ true → (if b then x else y) ≡ x
leave_out true x y e = refl
leave_out false x y e = absurd (cc)

apart : (k l : List ℕ) (o : Ordering) → compare k l ≡ o → is_eq o ≡ false → bytes_eq k l ≡ false
apart k l o h e = sym (is_eq-slice_cmp k l) ∙ ap is_eq h ∙ e

without_other : (k l : List ℕ) (e : Data) (ms : Members) (o : Ordering) → compare k l ≡ o → is_eq o ≡ false → without k (member l e ms) ≡ member l e (without k ms)
without_other k l e ms o h n = keep_other (bytes_eq k l) (without k ms) (member l e (without k ms)) (apart k l o h n)

pub without_behind : (k : List ℕ) (ps : List Pair) → AreBehind k ps 0 → without k (pairs_data ps) ≡ pairs_data ps
without_behind k [] v = refl
without_behind k (q ∷ ps) v =
    without_other k q.name (data_of q.tree) (pairs_data ps) Less (v zero q (omega arith) (omega arith)) refl ∙ ap (member q.name (data_of q.tree)) (without_behind k ps (λ j p g l. v (suc j) p (omega arith) (omega arith)))

pub without_none : (k : List ℕ) (ps : List Pair) (i : ℕ) → i ≤ length ps → AreBefore k ps i → AreBehind k ps i → without k (pairs_data ps) ≡ pairs_data ps
without_none k ps zero h w v = without_behind k ps v
without_none k [] (suc i) h w v = absurd (omega arith)
without_none k (q ∷ ps) (suc i) h w v =
    without_other k q.name (data_of q.tree) (pairs_data ps) Greater (w zero q (omega arith)) refl
    ∙ ap (member q.name (data_of q.tree)) (without_none k ps i (omega arith) (before_tail k q ps i w) (λ j p g l. v (suc j) p (omega arith) (omega arith)))

pub without-remove : (k : List ℕ) (ps : List Pair) (i : ℕ) → i < length ps → AreBefore k ps i → ((q : Pair) → (get_or ps i q).name ≡ k) → AreBehind k ps (i + 1) → pairs_data (remove ps i) ≡ without k (pairs_data ps)
without-remove k [] i h w n v = absurd (omega arith)
without-remove k (q ∷ ps) zero h w n v =
    sym (leave_out (bytes_eq k q.name) (without k (pairs_data ps)) (member q.name (data_of q.tree) (without k (pairs_data ps))) (sym (is_eq-slice_cmp k q.name) ∙ ap is_eq (equal_itself k q.name (n q)))
    ∙ without_behind k ps (λ j p g l. v (suc j) p (omega arith) (omega arith)))
without-remove k (q ∷ ps) (suc i) h w n v =
    ap (member q.name (data_of q.tree)) (without-remove k ps i (omega arith) (before_tail k q ps i w) n (λ j p g l. v (suc j) p (omega arith) (omega arith)))
    ∙ sym (without_other k q.name (data_of q.tree) (pairs_data ps) Greater (w zero q (omega arith)) refl)

pub below_rest : (l m : List ℕ) (ms : Members) → compare l m ≡ Less → IsBelow m ms → IsBelow l ms
below_rest l m no_members h w = tt
below_rest l m (member n e ms) h w = nat_list_cmp_total.trans l m n h w

below_if : (b : Bool) (l : List ℕ) (x y : Members) → IsBelow l x → IsBelow l y → IsBelow l (if b then x else y)
below_if true l x y v w = v
below_if false l x y v w = w

below_without : (l k : List ℕ) (ms : Members) → AreSortedMembers ms → IsBelow l ms → IsBelow l (without k ms)
below_without l k no_members s h = tt
below_without l k (member m e ms) s h = below_if (bytes_eq k m) l (without k ms) (member m e (without k ms)) (below_without l k ms s.3 (below_rest l m ms h s.2)) h

sorted_if : (b : Bool) (x y : Members) → AreSortedMembers x → AreSortedMembers y → AreSortedMembers (if b then x else y)
sorted_if true x y v w = v
sorted_if false x y v w = w

-- members that are left out keep the order of the others
pub sorted_without : (k : List ℕ) (ms : Members) → AreSortedMembers ms → AreSortedMembers (without k ms)
sorted_without k no_members s = tt
sorted_without k (member l e ms) s =
    sorted_if (bytes_eq k l) (without k ms) (member l e (without k ms)) (sorted_without k ms s.3) (s.0, s.1, below_without l k ms s.3 s.2, sorted_without k ms s.3)

-- ---- as the calls need it, for a list qs that is ps

module _ (ps qs : List Pair) (same : qs ≡ ps) (k : List ℕ) where
  moved : (r : Result ℕ ℕ) → IsPlace k qs r → IsPlace k ps r
  moved r w = subst (λ xs. IsPlace k xs r) same w

  pub set_there : (i : ℕ) (p : Pair) → k ≡ p.name → IsPlace k qs (Ok i) → pairs_data (set ps i p) ≡ put p.name (data_of p.tree) (pairs_data ps)
  set_there i p e w = let v = subst (λ x. IsPlace x ps (Ok i)) e (moved (Ok i) w) in put-set ps i p v.0 v.1 v.2

  pub inserted_there : (i : ℕ) (p : Pair) → k ≡ p.name → IsPlace k qs (Err i) → pairs_data (insert ps i p) ≡ put p.name (data_of p.tree) (pairs_data ps)
  inserted_there i p e w = let v = subst (λ x. IsPlace x ps (Err i)) e (moved (Err i) w) in put-insert ps i p v.0 v.1 v.2

  pub found_there : (i : ℕ) (p : Pair) → p ≡ get_or ps i p → IsPlace k qs (Ok i) → get_member k (pairs_data ps) ≡ Some (data_of p.tree)
  found_there i p at w = let v = moved (Ok i) w in found k ps i p v.0 v.1 v.2 at

  pub not_found : (i : ℕ) → IsPlace k qs (Err i) → get_member k (pairs_data ps) ≡ None
  not_found i w = let v = moved (Err i) w in none_found k ps i v.0 v.1 v.2

  pub removed_there : (i : ℕ) → IsPlace k qs (Ok i) → pairs_data (remove ps i) ≡ without k (pairs_data ps)
  removed_there i w = let v = moved (Ok i) w in without-remove k ps i v.0 v.1 v.2 v.3

  pub not_there : (i : ℕ) → IsPlace k qs (Err i) → without k (pairs_data ps) ≡ pairs_data ps
  not_there i w = let v = moved (Err i) w in without_none k ps i v.0 v.1 v.2
