-- What is put, pushed, removed or found keeps the profile.
use Rattle.std.proofs.Common.{◌≡◌, ℕ, suc, ◌≤◌, max, List, [], ◌∷◌, ◌++◌, Bool, true, false, Option, Some, None, Ordering, Less, Equal, Greater, nat_cmp, IsUtf8, refl, ap, subst, ◌∙◌, arith}
use Rattle.std.specs.Prelude.{option_map, if◌then◌else◌}
use Rattle.std.specs.Ordering.{match_ordering, ordering_reverse}
use Rattle.std.specs.Cmp.Lexicographic.{slice_cmp}
use Rattle.std.specs.Str.{bytes_eq}
use Rattle.std.proofs.lemmas.Cmp.{nat_list_cmp_total}
use Rattle.serde_json.specs.Data.{Num, Data, null, boolean, number, string, array, object, Items, no_items, item, Members, no_members, member, put, depth, items_depth, members_depth}
use Rattle.serde_json.specs.Find.{get_member}
use Rattle.cacao_json_counts.specs.Counts.{is_whole, first_broken, numbers, numbers_of_items, numbers_of_pairs}
use Rattle.cacao_json.specs.Profile.{IsBelow, IsFormed, AreFormed, AreFormedMembers}
use Rattle.cacao_json.specs.Tree.{item_last, without}
use Rattle.cacao_json.specs.Laws.{FormedIfWhole, PutKeepsProfile, RemovalKeepsProfile, PushKeepsProfile, MembersHaveProfile}
use Rattle.cacao_json.proofs.FormedParts.{sorted}
use Rattle.cacao_json.proofs.Shapes.{formed, below_put}
use Rattle.cacao_json.proofs.Places.{below_rest}

-- ---- numbers

one_whole : (b : Bool) (o : Option ℕ) → b ≡ true → o ≡ None → (if b then option_map suc o else Some 0) ≡ None
one_whole true o e f = ap (option_map suc) f
one_whole false o e f = absurd (cc)

all_whole : (xs ys : List Num) → first_broken xs ≡ None → first_broken ys ≡ None → first_broken (xs ++ ys) ≡ None
all_whole [] ys e f = f
all_whole (x ∷ xs) ys e f = whole_by (is_whole x) (first_broken xs) (first_broken (xs ++ ys)) (λ g. all_whole xs ys g f) e
  where
    whole_by : (b : Bool) (o p : Option ℕ) → (o ≡ None → p ≡ None) → (if b then option_map suc o else Some 0) ≡ None → (if b then option_map suc p else Some 0) ≡ None
    whole_by true None p k e = ap (option_map suc) (k refl)
    whole_by true (Some i) p k e = absurd (cc)
    whole_by false o p k e = absurd (cc)

mutual
  pub formed_whole : (d : Data) → IsFormed d → first_broken (numbers d) ≡ None
  formed_whole null h = refl
  formed_whole (boolean b) h = refl
  formed_whole (number n) h = one_whole (is_whole n) None h refl
  formed_whole (string s) h = refl
  formed_whole (array ds) h = whole_items ds h
  formed_whole (object ms) h = whole_pairs ms h

  whole_items : (ds : Items) → AreFormed ds → first_broken (numbers_of_items ds) ≡ None
  whole_items no_items h = refl
  whole_items (item d ds) h = all_whole (numbers d) (numbers_of_items ds) (formed_whole d h.0) (whole_items ds h.1)

  whole_pairs : (ms : Members) → AreFormedMembers ms → first_broken (numbers_of_pairs ms) ≡ None
  whole_pairs no_members h = refl
  whole_pairs (member k d ms) h = all_whole (numbers d) (numbers_of_pairs ms) (formed_whole d h.1) (whole_pairs ms h.3)

pub formed_if_whole : FormedIfWhole
formed_if_whole d = ((λ h. (sorted d h, formed_whole d h)), (λ w. formed d w.0 w.1))

-- ---- what is put

put_by : (o : Ordering) (k l : List ℕ) (d e : Data) (ms : Members) → slice_cmp nat_cmp k l ≡ o → IsUtf8 k → IsFormed d → AreFormedMembers (member l e ms) → AreFormedMembers (put k d ms)
    → AreFormedMembers (match_ordering o (member k d (member l e ms)) (member l d ms) (member l e (put k d ms)))
put_by Less k l d e ms c u h w p = (u, h, c, w)
put_by Equal k l d e ms c u h w p = (w.0, h, w.2, w.3)
put_by Greater k l d e ms c u h w p = (w.0, w.1, below_put l k d ms (nat_list_cmp_total.antisymm l k ∙ ap ordering_reverse c) w.2, p)

pub formed_put : (k : List ℕ) (d : Data) (ms : Members) → IsUtf8 k → IsFormed d → AreFormedMembers ms → AreFormedMembers (put k d ms)
formed_put k d no_members u h w = (u, h, tt, tt)
formed_put k d (member l e ms) u h w = put_by (slice_cmp nat_cmp k l) k l d e ms refl u h w (formed_put k d ms u h w.3)

depth_by : (o : Ordering) (a b c : Members) (n : ℕ) → members_depth a ≤ n → members_depth b ≤ n → members_depth c ≤ n → members_depth (match_ordering o a b c) ≤ n
depth_by Less a b c n x y z = x
depth_by Equal a b c n x y z = y
depth_by Greater a b c n x y z = z

depth-put : (k : List ℕ) (d : Data) (ms : Members) → members_depth (put k d ms) ≤ max (depth d) (members_depth ms)
depth-put k d no_members = omega arith
depth-put k d (member l e ms) =
    depth_by (slice_cmp nat_cmp k l) (member k d (member l e ms)) (member l d ms) (member l e (put k d ms)) _ (omega arith) (omega arith) (omega (arith, depth-put k d ms))

pub put_keeps_profile : PutKeepsProfile
put_keeps_profile k d ms u t shallow w = record { shallow = omega (arith, depth-put k d ms, w.shallow, shallow); formed = formed_put k d ms u t.formed w.formed }

-- ---- what is left out

below_if : (b : Bool) (l : List ℕ) (x y : Members) → IsBelow l x → IsBelow l y → IsBelow l (if b then x else y)
below_if true l x y v w = v
below_if false l x y v w = w

below_without : (l k : List ℕ) (ms : Members) → AreFormedMembers ms → IsBelow l ms → IsBelow l (without k ms)
below_without l k no_members s h = tt
below_without l k (member m e ms) s h = below_if (bytes_eq k m) l (without k ms) (member m e (without k ms)) (below_without l k ms s.3 (below_rest l m ms h s.2)) h

formed_or : (b : Bool) (x y : Members) → AreFormedMembers x → AreFormedMembers y → AreFormedMembers (if b then x else y)
formed_or true x y v w = v
formed_or false x y v w = w

formed_without : (k : List ℕ) (ms : Members) → AreFormedMembers ms → AreFormedMembers (without k ms)
formed_without k no_members s = tt
formed_without k (member l e ms) s =
    formed_or (bytes_eq k l) (without k ms) (member l e (without k ms)) (formed_without k ms s.3) (s.0, s.1, below_without l k ms s.3 s.2, formed_without k ms s.3)

depth_or : (b : Bool) (x y : Members) (n : ℕ) → members_depth x ≤ n → members_depth y ≤ n → members_depth (if b then x else y) ≤ n
depth_or true x y n v w = v
depth_or false x y n v w = w

depth-without : (k : List ℕ) (ms : Members) → members_depth (without k ms) ≤ members_depth ms
depth-without k no_members = omega arith
depth-without k (member l e ms) = depth_or (bytes_eq k l) (without k ms) (member l e (without k ms)) _ (omega (arith, depth-without k ms)) (omega (arith, depth-without k ms))

pub removal_keeps_profile : RemovalKeepsProfile
removal_keeps_profile k ms w = record { shallow = omega (arith, depth-without k ms, w.shallow); formed = formed_without k ms w.formed }

-- ---- what is pushed

formed_last : (d : Data) (ds : Items) → IsFormed d → AreFormed ds → AreFormed (item_last ds d)
formed_last d no_items h w = (h, tt)
formed_last d (item e ds) h w = (w.0, formed_last d ds h w.1)

depth-item_last : (d : Data) (ds : Items) → items_depth (item_last ds d) ≤ max (depth d) (items_depth ds)
depth-item_last d no_items = omega arith
depth-item_last d (item e ds) = omega (arith, depth-item_last d ds)

pub push_keeps_profile : PushKeepsProfile
push_keeps_profile d ds t shallow w = record { shallow = omega (arith, depth-item_last d ds, w.shallow, shallow); formed = formed_last d ds t.formed w.formed }

-- ---- what is found

found_by : (o : Ordering) (x e : Data) (rest : Option Data) (ms : Members) → match_ordering o rest (Some x) rest ≡ Some e → (rest ≡ Some e → IsFormed e × (depth e ≤ members_depth ms)) → IsFormed x
    → IsFormed e × (depth e ≤ max (depth x) (members_depth ms))
found_by Less x e rest ms h later w = let p = later h in (p.0, omega (arith, p.1))
found_by Equal x e rest ms h later w = let same : x ≡ e = cc in (subst IsFormed same w, omega (arith, ap depth same))
found_by Greater x e rest ms h later w = let p = later h in (p.0, omega (arith, p.1))

member_kept : (k : List ℕ) (ms : Members) (e : Data) → AreFormedMembers ms → get_member k ms ≡ Some e → IsFormed e × (depth e ≤ members_depth ms)
member_kept k no_members e w h = absurd (cc)
member_kept k (member l x ms) e w h = found_by (slice_cmp nat_cmp k l) x e (get_member k ms) ms h (member_kept k ms e w.3) w.1

pub members_have_profile : MembersHaveProfile
members_have_profile k null e w h = absurd (cc)
members_have_profile k (boolean b) e w h = absurd (cc)
members_have_profile k (number n) e w h = absurd (cc)
members_have_profile k (string s) e w h = absurd (cc)
members_have_profile k (array ds) e w h = absurd (cc)
members_have_profile k (object ms) e w h = let p = member_kept k ms e w.formed h in record { shallow = omega (arith, p.1, w.shallow); formed = p.0 }
