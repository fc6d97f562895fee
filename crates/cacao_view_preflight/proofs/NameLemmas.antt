-- Members that are put, left out, set and changed: what is found then, and which names there are.
use Rattle.std.proofs.Common.{◌≡◌, ◌∙◌, refl, sym, ap, subst, ℕ, Bool, true, false, ◌&&◌, List, [], ◌∷◌, Option, Some, None, Ordering, Less, Equal, Greater, nat_cmp}
use Rattle.std.specs.Prelude.{option_map, if◌then◌else◌}
use Rattle.std.specs.List.{list_any}
use Rattle.std.specs.Option.{option_map_or}
use Rattle.std.specs.Ordering.{match_ordering}
use Rattle.std.specs.Cmp.Lexicographic.{slice_cmp}
use Rattle.std.specs.Str.{bytes_eq}
use Rattle.std.proofs.lemmas.Cmp.{nat_list_cmp_total, tied_itself}
use Rattle.std.proofs.lemmas.Map.Lookups.{exact_bytes}
use Rattle.std.proofs.lemmas.Slice.Eq.{bytes_eq-Decides}
use Rattle.serde_json.specs.Data.{Data, Members, no_members, member, put}
use Rattle.serde_json.specs.Find.{get_member}
use Rattle.cacao_json.specs.Tree.{without}
use Rattle.flow_core_rules.specs.Filled.{with_member}
use Rattle.oc2_msg_targets.specs.Parts.{are_among, names_of}
use Rattle.cacao_view_preflight.specs.Settled.{changed}

abbrev compare : List ℕ → List ℕ → Ordering
compare k l = slice_cmp nat_cmp k l

-- ---- tests of names

pub is_name : (k l : List ℕ) → bytes_eq k l ≡ true → k ≡ l
is_name k l e = (bytes_eq-Decides k l).0 e

pub other_name : (k l : List ℕ) → bytes_eq k l ≡ false → k ≡ l → ⊥
other_name k l e same = cc (sym ((bytes_eq-Decides k l).1 same) ∙ e)

differs : (k l : List ℕ) → (k ≡ l → ⊥) → bytes_eq k l ≡ false
differs k l h = by (bytes_eq k l) refl
  where
    by : (b : Bool) → bytes_eq k l ≡ b → b ≡ false
    by true e = absurd (h ((bytes_eq-Decides k l).0 e))
    by false e = refl

-- ---- what is found

get_by : (o : Ordering) (k l : List ℕ) (d : Data) (ms : Members) → compare k l ≡ o → get_member k (member l d ms) ≡ match_ordering o (get_member k ms) (Some d) (get_member k ms)
get_by o k l d ms h = ap (λ o. match_ordering o (get_member k ms) (Some d) (get_member k ms)) h

get_same : (k l : List ℕ) (d : Data) (ms : Members) → k ≡ l → get_member k (member l d ms) ≡ Some d
get_same k l d ms e = get_by Equal k l d ms (subst (λ x. compare k x ≡ Equal) e (tied_itself nat_list_cmp_total k))

get_other : (k l : List ℕ) (d : Data) (ms : Members) → (k ≡ l → ⊥) → get_member k (member l d ms) ≡ get_member k ms
get_other k l d ms h = by (compare k l) refl
  where
    by : (o : Ordering) → compare k l ≡ o → get_member k (member l d ms) ≡ get_member k ms
    by Less e = get_by Less k l d ms e
    by Equal e = absurd (h (exact_bytes k l e))
    by Greater e = get_by Greater k l d ms e

-- behind one member more
get_behind : (k l : List ℕ) (d : Data) (ms ns : Members) → get_member k ms ≡ get_member k ns → get_member k (member l d ms) ≡ get_member k (member l d ns)
get_behind k l d ms ns e = ap (λ (o : Option Data). match_ordering (compare k l) o (Some d) o) e

put_by : (o : Ordering) (n l : List ℕ) (d e : Data) (ms : Members) → compare n l ≡ o → put n d (member l e ms) ≡ match_ordering o (member n d (member l e ms)) (member l d ms) (member l e (put n d ms))
put_by o n l d e ms h = ap (λ o. match_ordering o (member n d (member l e ms)) (member l d ms) (member l e (put n d ms))) h

pub get_put : (n : List ℕ) (d : Data) (ms : Members) → get_member n (put n d ms) ≡ Some d
get_put n d no_members = get_same n n d no_members refl
get_put n d (member l e ms) = by (compare n l) refl (get_put n d ms)
  where
    by : (o : Ordering) → compare n l ≡ o → get_member n (put n d ms) ≡ Some d → get_member n (put n d (member l e ms)) ≡ Some d
    by Less h ih = ap (get_member n) (put_by Less n l d e ms h) ∙ get_same n n d (member l e ms) refl
    by Equal h ih = ap (get_member n) (put_by Equal n l d e ms h) ∙ get_same n l d ms (exact_bytes n l h)
    by Greater h ih =
        ap (get_member n) (put_by Greater n l d e ms h) ∙ get_by Greater n l e (put n d ms) h ∙ ih

pub get_put_other : (k n : List ℕ) (d : Data) (ms : Members) → (k ≡ n → ⊥) → get_member k (put n d ms) ≡ get_member k ms
get_put_other k n d no_members apart = get_other k n d no_members apart
get_put_other k n d (member l e ms) apart = by (compare n l) refl (get_put_other k n d ms apart)
  where
    by : (o : Ordering) → compare n l ≡ o → get_member k (put n d ms) ≡ get_member k ms → get_member k (put n d (member l e ms)) ≡ get_member k (member l e ms)
    by Less h ih = ap (get_member k) (put_by Less n l d e ms h) ∙ get_other k n d (member l e ms) apart
    by Equal h ih =
        let away : k ≡ l → ⊥ = λ same. apart (same ∙ sym (exact_bytes n l h)) in
        ap (get_member k) (put_by Equal n l d e ms h) ∙ get_other k l d ms away ∙ sym (get_other k l e ms away)
    by Greater h ih = ap (get_member k) (put_by Greater n l d e ms h) ∙ get_behind k l e (put n d ms) ms ih

without_by : (b : Bool) (n l : List ℕ) (d : Data) (ms : Members) → bytes_eq n l ≡ b → without n (member l d ms) ≡ (if b then without n ms else member l d (without n ms))
without_by b n l d ms h = ap (λ (b : Bool). if b then without n ms else member l d (without n ms)) h

pub get_without : (n : List ℕ) (ms : Members) → get_member n (without n ms) ≡ None
get_without n no_members = refl
get_without n (member l d ms) = by (bytes_eq n l) refl (get_without n ms)
  where
    by : (b : Bool) → bytes_eq n l ≡ b → get_member n (without n ms) ≡ None → get_member n (without n (member l d ms)) ≡ None
    by true h ih = ap (get_member n) (without_by true n l d ms h) ∙ ih
    by false h ih =
        ap (get_member n) (without_by false n l d ms h) ∙ get_other n l d (without n ms) (other_name n l h) ∙ ih

pub get_without_other : (k n : List ℕ) (ms : Members) → (k ≡ n → ⊥) → get_member k (without n ms) ≡ get_member k ms
get_without_other k n no_members apart = refl
get_without_other k n (member l d ms) apart = by (bytes_eq n l) refl (get_without_other k n ms apart)
  where
    by : (b : Bool) → bytes_eq n l ≡ b → get_member k (without n ms) ≡ get_member k ms → get_member k (without n (member l d ms)) ≡ get_member k (member l d ms)
    by true h ih =
        ap (get_member k) (without_by true n l d ms h) ∙ ih
        ∙ sym (get_other k l d ms (λ same. apart (same ∙ sym (is_name n l h))))
    by false h ih = ap (get_member k) (without_by false n l d ms h) ∙ get_behind k l d (without n ms) ms ih

-- the member that is changed, and another
pub get_changed : (n : List ℕ) (f : Data → Data) (ms : Members) → get_member n (changed n f ms) ≡ option_map f (get_member n ms)
get_changed n f ms = by (get_member n ms)
  where
    by : (o : Option Data) → get_member n (option_map_or (λ d. put n (f d) (without n ms)) o (without n ms)) ≡ option_map f o
    by None = get_without n ms
    by (Some d) = get_put n (f d) (without n ms)

pub get_changed_other : (k n : List ℕ) (f : Data → Data) (ms : Members) → (k ≡ n → ⊥) → get_member k (changed n f ms) ≡ get_member k ms
get_changed_other k n f ms apart = by (get_member n ms)
  where
    by : (o : Option Data) → get_member k (option_map_or (λ d. put n (f d) (without n ms)) o (without n ms)) ≡ get_member k ms
    by None = get_without_other k n ms apart
    by (Some d) = get_put_other k n (f d) (without n ms) apart ∙ get_without_other k n ms apart

-- the member that is set where it stands, and another
with_by : (b : Bool) (n l : List ℕ) (f : Data → Data) (new d : Data) (ms : Members) → bytes_eq l n ≡ b → with_member n f new (member l d ms) ≡ (if b then member l (f d) ms else member l d (with_member n f new ms))
with_by b n l f new d ms h = ap (λ (b : Bool). if b then member l (f d) ms else member l d (with_member n f new ms)) h

pub get_with : (n : List ℕ) (f : Data → Data) (new : Data) (ms : Members) → get_member n (with_member n f new ms) ≡ Some (option_map_or f (get_member n ms) new)
get_with n f new no_members = get_same n n new no_members refl
get_with n f new (member l d ms) = by (bytes_eq l n) refl (get_with n f new ms)
  where
    by : (b : Bool) → bytes_eq l n ≡ b → get_member n (with_member n f new ms) ≡ Some (option_map_or f (get_member n ms) new) → get_member n (with_member n f new (member l d ms)) ≡ Some (option_map_or f (get_member n (member l d ms)) new)
    by true h ih =
        let same : n ≡ l = sym (is_name l n h) in
        ap (get_member n) (with_by true n l f new d ms h) ∙ get_same n l (f d) ms same
        ∙ ap (λ (o : Option Data). Some (option_map_or f o new)) (sym (get_same n l d ms same))
    by false h ih =
        let away : n ≡ l → ⊥ = λ same. other_name l n h (sym same) in
        ap (get_member n) (with_by false n l f new d ms h) ∙ get_other n l d (with_member n f new ms) away ∙ ih
        ∙ ap (λ (o : Option Data). Some (option_map_or f o new)) (sym (get_other n l d ms away))

pub get_with_other : (k n : List ℕ) (f : Data → Data) (new : Data) (ms : Members) → (k ≡ n → ⊥) → get_member k (with_member n f new ms) ≡ get_member k ms
get_with_other k n f new no_members apart = get_other k n new no_members apart
get_with_other k n f new (member l d ms) apart = by (bytes_eq l n) refl (get_with_other k n f new ms apart)
  where
    by : (b : Bool) → bytes_eq l n ≡ b → get_member k (with_member n f new ms) ≡ get_member k ms → get_member k (with_member n f new (member l d ms)) ≡ get_member k (member l d ms)
    by true h ih =
        let away : k ≡ l → ⊥ = λ same. apart (same ∙ is_name l n h) in
        ap (get_member k) (with_by true n l f new d ms h) ∙ get_other k l (f d) ms away ∙ sym (get_other k l d ms away)
    by false h ih = ap (get_member k) (with_by false n l f new d ms h) ∙ get_behind k l d (with_member n f new ms) ms ih

-- ---- which names there are

abbrev allows : List (List ℕ) → List ℕ → Bool
allows names name = list_any (λ word. bytes_eq name word) names

among_first : (names : List (List ℕ)) (n : List ℕ) (rest : List (List ℕ)) → allows names n ≡ true → are_among names (n ∷ rest) ≡ are_among names rest
among_first names n rest h = ap (λ b. b && are_among names rest) h

pub among_put : (names : List (List ℕ)) (n : List ℕ) (d : Data) (ms : Members) → allows names n ≡ true → are_among names (names_of (put n d ms)) ≡ are_among names (names_of ms)
among_put names n d no_members h = among_first names n [] h
among_put names n d (member l e ms) h = by (compare n l) refl (among_put names n d ms h)
  where
    by : (o : Ordering) → compare n l ≡ o → are_among names (names_of (put n d ms)) ≡ are_among names (names_of ms) → are_among names (names_of (put n d (member l e ms))) ≡ are_among names (names_of (member l e ms))
    by Less k ih = ap (λ ms. are_among names (names_of ms)) (put_by Less n l d e ms k) ∙ among_first names n (l ∷ names_of ms) h
    by Equal k ih = ap (λ ms. are_among names (names_of ms)) (put_by Equal n l d e ms k)
    by Greater k ih =
        ap (λ ms. are_among names (names_of ms)) (put_by Greater n l d e ms k) ∙ ap (λ b. allows names l && b) ih

pub among_without : (names : List (List ℕ)) (n : List ℕ) (ms : Members) → allows names n ≡ true → are_among names (names_of (without n ms)) ≡ are_among names (names_of ms)
among_without names n no_members h = refl
among_without names n (member l d ms) h = by (bytes_eq n l) refl (among_without names n ms h)
  where
    by : (b : Bool) → bytes_eq n l ≡ b → are_among names (names_of (without n ms)) ≡ are_among names (names_of ms) → are_among names (names_of (without n (member l d ms))) ≡ are_among names (names_of (member l d ms))
    by true k ih =
        ap (λ ms. are_among names (names_of ms)) (without_by true n l d ms k) ∙ ih
        ∙ sym (among_first names l (names_of ms) (subst (λ x. allows names x ≡ true) (is_name n l k) h))
    by false k ih =
        ap (λ ms. are_among names (names_of ms)) (without_by false n l d ms k) ∙ ap (λ b. allows names l && b) ih

pub among_changed : (names : List (List ℕ)) (n : List ℕ) (f : Data → Data) (ms : Members) → allows names n ≡ true → are_among names (names_of (changed n f ms)) ≡ are_among names (names_of ms)
among_changed names n f ms h = by (get_member n ms)
  where
    by : (o : Option Data) → are_among names (names_of (option_map_or (λ d. put n (f d) (without n ms)) o (without n ms))) ≡ are_among names (names_of ms)
    by None = among_without names n ms h
    by (Some d) = among_put names n (f d) (without n ms) h ∙ among_without names n ms h

pub among_with : (names : List (List ℕ)) (n : List ℕ) (f : Data → Data) (new : Data) (ms : Members) → allows names n ≡ true → are_among names (names_of (with_member n f new ms)) ≡ are_among names (names_of ms)
among_with names n f new no_members h = among_first names n [] h
among_with names n f new (member l d ms) h = by (bytes_eq l n) refl (among_with names n f new ms h)
  where
    by : (b : Bool) → bytes_eq l n ≡ b → are_among names (names_of (with_member n f new ms)) ≡ are_among names (names_of ms) → are_among names (names_of (with_member n f new (member l d ms))) ≡ are_among names (names_of (member l d ms))
    by true k ih = ap (λ ms. are_among names (names_of ms)) (with_by true n l f new d ms k)
    by false k ih =
        ap (λ ms. are_among names (names_of ms)) (with_by false n l f new d ms k) ∙ ap (λ b. allows names l && b) ih
