-- The items and the members of a tree as lists, loops over them, and members in order.
use Rattle.std.proofs.Common.{◌≡◌, ℕ, zero, suc, ◌+◌, ◌<◌, ◌≤◌, List, [], ◌∷◌, ◌++◌, length, get_or, take, map, fold, Ordering, Less, Equal, Greater, nat_cmp, refl, sym, ◌∙◌, ap, subst, arith, append_assoc, append-nil}
use Rattle.std.specs.List.{All, AllWithin, AllByRecursion, HoldsAt}
use Rattle.std.specs.Ordering.{match_ordering, ordering_reverse}
use Rattle.std.specs.Cmp.Lexicographic.{slice_cmp, nat_list_cmp_total}
use Rattle.std.proofs.lemmas.List.{take_more, map-append, length-map}
use Rattle.std.proofs.lemmas.List.Elements.{AllWithin-more, AllWithin-upto, All-from_all_within, All-from_recursion, recursion_from_All, All-nil}
use Rattle.std.specs.Prelude.{◌↔◌, Bool, IsTrue, Option, Some, None, IfSome, IsSomeAnd, option_and_then}
use Rattle.std.specs.Option.{option_map_or}
use Rattle.serde_json.specs.Data.{Data, Items, Members, no_members, member}
use Rattle.serde_json.specs.Find.{as_array, as_object}
use Rattle.cacao_json.specs.Tree.{items_of, members_of}
use Rattle.cacao_json.specs.Profile.{IsBelow, AreSortedMembers}
use Rattle.cacao_vars.specs.Declarations.{IsBefore}
use Rattle.cacao_book_shape.specs.Members.{items_in, members_in, with_member, in_order}
use Rattle.cacao_book_shape.specs.Orders.{IsRising}

-- ---- lists and back

pub items_in-items_of : (ds : List Data) → items_in (items_of ds) ≡ ds
items_in-items_of [] = refl
items_in-items_of (d ∷ ds) = ap (λ l. d ∷ l) (items_in-items_of ds)

pub members_in-members_of : (ms : List (List ℕ × Data)) → members_in (members_of ms) ≡ ms
members_in-members_of [] = refl
members_in-members_of (m ∷ ms) = ap (λ l. m ∷ l) (members_in-members_of ms)

-- ---- loops that test each item

holds_at : {X Y : Type 0} (f : X → Y) (P : Y → Type 0) (xs : List X) (i : ℕ) (x : X) → i < length xs → x ≡ get_or xs i x → P (f x) → HoldsAt P (map f xs) i
holds_at f P [] i x lt at h = absurd (omega arith)
holds_at f P (y ∷ ys) zero x lt at h = λ d. subst (λ z. P (f z)) at h
holds_at f P (y ∷ ys) (suc i) x lt at h = holds_at f P ys i x (omega arith) at h

-- one more item fits
pub fits_more : {X Y : Type 0} (f : X → Y) (P : Y → Type 0) (xs : List X) (i : ℕ) (x : X) → i < length xs → x ≡ get_or xs i x → AllWithin P (map f xs) 0 i → P (f x) → AllWithin P (map f xs) 0 (i + 1)
fits_more f P xs i x lt at within h = AllWithin-more P (map f xs) 0 i within (holds_at f P xs i x lt at h)

-- all items fit
pub fits_all : {X Y : Type 0} (f : X → Y) (P : Y → Type 0) (xs : List X) (i : ℕ) → length xs ≤ i → AllWithin P (map f xs) 0 i → All P (map f xs)
fits_all f P xs i over within =
    All-from_all_within P (map f xs) (AllWithin-upto P (map f xs) 0 i (length (map f xs)) (omega (arith, length-map xs f)) within)

-- each of the items fits
pub fits_at : {X Y : Type 0} (f : X → Y) (P : Y → Type 0) (xs : List X) (i : ℕ) (x : X) → i < length xs → x ≡ get_or xs i x → All P (map f xs) → P (f x)
fits_at f P [] i x lt at all = absurd (omega arith)
fits_at f P (y ∷ ys) zero x lt at all = subst (λ z. P (f z)) (sym at) (all 0 (f y) (omega arith))
fits_at f P (y ∷ ys) (suc i) x lt at all = fits_at f P ys i x (omega arith) at (λ k d lt. all (suc k) d (omega arith))

-- ---- loops that make a list

pub made_more : {X Y Z : Type 0} (f : X → Y) (g : Y → Z) (xs : List X) (i : ℕ) (x : X) (made more : List Z) (z : Z) → i < length xs → x ≡ get_or xs i x → made ≡ map g (map f (take i xs)) → z ≡ g (f x) → more ≡ made ++ z ∷ [] → more ≡ map g (map f (take (i + 1) xs))
made_more f g xs i x made more z lt at done here push =
    push ∙ ap (λ l. l ++ z ∷ []) done ∙ ap (λ y. map g (map f (take i xs)) ++ y ∷ []) (here ∙ ap (λ y. g (f y)) at)
    ∙ sym (map-append g (map f (take i xs)) (f (get_or xs i x) ∷ [])) ∙ ap (map g) (sym (map-append f (take i xs) (get_or xs i x ∷ []))) ∙ ap (λ l. map g (map f l)) (sym (take_more xs i x lt))

take_past : {X : Type 0} (xs : List X) (i : ℕ) → length xs ≤ i → take i xs ≡ xs
take_past [] zero h = refl
take_past [] (suc i) h = refl
take_past (x ∷ xs) zero h = absurd (omega arith)
take_past (x ∷ xs) (suc i) h = ap (λ l. x ∷ l) (take_past xs i (omega arith))

pub made_all : {X Y Z : Type 0} (f : X → Y) (g : Y → Z) (xs : List X) (i : ℕ) (made : List Z) → length xs ≤ i → made ≡ map g (map f (take i xs)) → made ≡ map g (map f xs)
made_all f g xs i made over done = done ∙ ap (λ l. map g (map f l)) (take_past xs i over)

-- ---- members in order

before_all : (name first : List ℕ) (ms : List (List ℕ × Data)) → IsBefore name first → AllByRecursion (λ later. IsBefore first later.0) ms → AllByRecursion (λ later. IsBefore name later.0) ms
before_all name first [] h all = tt
before_all name first (m ∷ ms) h all = (nat_list_cmp_total.trans name first m.0 h all.0, before_all name first ms h all.1)

before_rest : (name : List ℕ) (ms : Members) → IsBelow name ms → IsRising (members_in ms) → AllByRecursion (λ later. IsBefore name later.0) (members_in ms)
before_rest name no_members h rising = tt
before_rest name (member l d ms) h rising = (h, before_all name l (members_in ms) h rising.0)

pub IsRising-sorted : (ms : Members) → AreSortedMembers ms → IsRising (members_in ms)
IsRising-sorted no_members h = tt
IsRising-sorted (member k d ms) h = let rest = IsRising-sorted ms h.3 in (before_rest k ms h.2 rest, rest)

at_greater : {X : Type 0} (o : Ordering) (x y z : X) → o ≡ Greater → match_ordering o x y z ≡ z
at_greater o x y z e = rw e refl

with_member-last : (done : List (List ℕ × Data)) (new : List ℕ × Data) → AllByRecursion (λ m. IsBefore m.0 new.0) done → with_member done new ≡ done ++ new ∷ []
with_member-last [] new h = refl
with_member-last (m ∷ ms) new h =
    at_greater (slice_cmp nat_cmp new.0 m.0) (new ∷ m ∷ ms) (m ∷ ms) (m ∷ with_member ms new) (nat_list_cmp_total.antisymm new.0 m.0 ∙ ap ordering_reverse h.0)
    ∙ ap (λ l. m ∷ l) (with_member-last ms new h.1)

-- each of the first comes before each of the others
AreBefore : List (List ℕ × Data) → List (List ℕ × Data) → Type 0
AreBefore done [] = Unit {0}
AreBefore done (n ∷ ns) = AllByRecursion (λ m. IsBefore m.0 n.0) done × AreBefore done ns

all_push : (done : List (List ℕ × Data)) (m n : List ℕ × Data) → AllByRecursion (λ x. IsBefore x.0 n.0) done → IsBefore m.0 n.0 → AllByRecursion (λ x. IsBefore x.0 n.0) (done ++ m ∷ [])
all_push [] m n h last = (last, tt)
all_push (d ∷ done) m n h last = (h.0, all_push done m n h.1 last)

before_push : (done : List (List ℕ × Data)) (m : List ℕ × Data) (ns : List (List ℕ × Data)) → AreBefore done ns → AllByRecursion (λ later. IsBefore m.0 later.0) ns → AreBefore (done ++ m ∷ []) ns
unfolding AreBefore
before_push done m [] h all = tt
before_push done m (n ∷ ns) h all = (all_push done m n h.0 all.0, before_push done m ns h.1 all.1)

before_none : (ns : List (List ℕ × Data)) → AreBefore [] ns
unfolding AreBefore
before_none [] = tt
before_none (n ∷ ns) = (tt, before_none ns)

fold_rising : (done rest : List (List ℕ × Data)) → AreBefore done rest → IsRising rest → fold with_member done rest ≡ done ++ rest
unfolding AreBefore
fold_rising done [] h rising = sym (append-nil done)
fold_rising done (m ∷ ms) h rising =
    ap (λ d. fold with_member d ms) (with_member-last done m h.0)
    ∙ fold_rising (done ++ m ∷ []) ms (before_push done m ms h.1 rising.0) rising.1 ∙ append_assoc done (m ∷ []) ms

-- rising members are in order
pub in_order-rising : (ms : List (List ℕ × Data)) → IsRising ms → in_order ms ≡ ms
in_order-rising ms rising = fold_rising [] ms (before_none ms) rising

-- the members of an object that was found
pub members_found : (o : Option Data) (d : Data) (ms : Members) → Some d ≡ o → Some ms ≡ as_object d → IsRising (members_in ms) → option_map_or (λ found. in_order (members_in found)) (option_and_then as_object o) [] ≡ members_in ms
members_found o d ms is object rising =
    ap (λ p. option_map_or (λ found. in_order (members_in found)) (option_and_then as_object p) []) (sym is)
    ∙ ap (λ p. option_map_or (λ found. in_order (members_in found)) p []) (sym object) ∙ in_order-rising (members_in ms) rising

-- ---- what holds of each member in order

each_cases : {X : Type 0} (P : X → Type 0) (o : Ordering) (xs ys zs : List X) → AllByRecursion P xs → AllByRecursion P ys → AllByRecursion P zs → AllByRecursion P (match_ordering o xs ys zs)
each_cases P Less xs ys zs h k l = h
each_cases P Equal xs ys zs h k l = k
each_cases P Greater xs ys zs h k l = l

each_with : (P : List ℕ × Data → Type 0) (done : List (List ℕ × Data)) (new : List ℕ × Data) → P new → AllByRecursion P done → AllByRecursion P (with_member done new)
each_with P [] new h all = (h, tt)
each_with P (m ∷ ms) new h all =
    each_cases P (slice_cmp nat_cmp new.0 m.0) (new ∷ m ∷ ms) (m ∷ ms) (m ∷ with_member ms new) (h, all) all (all.0, each_with P ms new h all.1)

each_fold : (P : List ℕ × Data → Type 0) (done ms : List (List ℕ × Data)) → AllByRecursion P done → AllByRecursion P ms → AllByRecursion P (fold with_member done ms)
each_fold P done [] h all = h
each_fold P done (m ∷ ms) h all = each_fold P (with_member done m) ms (each_with P done m all.0 h) all.1

All-in_order : (P : List ℕ × Data → Type 0) (ms : List (List ℕ × Data)) → All P ms → All P (in_order ms)
All-in_order P ms h = All-from_recursion P (in_order ms) (each_fold P [] ms tt (recursion_from_All P ms h))

-- each member of an object that is there
pub members_fit : (P : List ℕ × Data → Type 0) (least most : ℕ) (o : Option Data) → IfSome o (λ d. IsSomeAnd (as_object d) (λ ms. (least ≤ length (members_in ms)) × (length (members_in ms) ≤ most) × All P (members_in ms)))
    → All P (option_map_or (λ ms. in_order (members_in ms)) (option_and_then as_object o) [])
members_fit P least most None h = All-nil P
members_fit P least most (Some d) h = inner (as_object d) h
  where
    inner : (p : Option Members) → IsSomeAnd p (λ ms. (least ≤ length (members_in ms)) × (length (members_in ms) ≤ most) × All P (members_in ms)) → All P (option_map_or (λ ms. in_order (members_in ms)) p [])
    inner None h = absurd h
    inner (Some ms) h = All-in_order P (members_in ms) h.2

-- each item of a list that is there
pub items_fit : (P : Data → Type 0) (least most : ℕ) (o : Option Data) → IfSome o (λ d. IsSomeAnd (as_array d) (λ ds. (least ≤ length (items_in ds)) × (length (items_in ds) ≤ most) × All P (items_in ds)))
    → (length (option_map_or items_in (option_and_then as_array o) []) ≤ most) × All P (option_map_or items_in (option_and_then as_array o) [])
items_fit P least most None h = (omega arith, All-nil P)
items_fit P least most (Some d) h = inner (as_array d) h
  where
    inner : (p : Option Items) → IsSomeAnd p (λ ds. (least ≤ length (items_in ds)) × (length (items_in ds) ≤ most) × All P (items_in ds)) → (length (option_map_or items_in p []) ≤ most) × All P (option_map_or items_in p [])
    inner None h = absurd h
    inner (Some ds) h = (h.1, h.2)

pub items_each : (P : Data → Type 0) (o : Option Data) → IfSome o (λ d. IfSome (as_array d) (λ ds. All P (items_in ds))) → All P (option_map_or items_in (option_and_then as_array o) [])
items_each P None h = All-nil P
items_each P (Some d) h = inner (as_array d) h
  where
    inner : (p : Option Items) → IfSome p (λ ds. All P (items_in ds)) → All P (option_map_or items_in p [])
    inner None h = All-nil P
    inner (Some ds) h = h

-- a member that is there is one that may be there
pub may_have : {X : Type 0} (P : X → Type 0) (o : Option X) → IsSomeAnd o P → IfSome o P
may_have P None h = absurd h
may_have P (Some x) h = h

-- ---- tests of whole objects and lists

pub object_of : (Fits : List ℕ × Data → Type 0) (least most : ℕ) (o : Option Members) (ms : Members) (ps : List (List ℕ × Data)) (b : Bool) → Some ms ≡ o → members_in ms ≡ ps → least ≤ length ps → length ps ≤ most → IsTrue b ↔ All Fits ps
    → IsTrue b ↔ IsSomeAnd o (λ found. (least ≤ length (members_in found)) × (length (members_in found) ≤ most) × All Fits (members_in found))
object_of Fits least most o ms ps b is list low high fits =
    let inner : IsTrue b ↔ ((least ≤ length (members_in ms)) × (length (members_in ms) ≤ most) × All Fits (members_in ms)) =
    subst (λ l. IsTrue b ↔ ((least ≤ length l) × (length l ≤ most) × All Fits l)) (sym list) ((λ t. (low, high, fits.0 t)), (λ h. fits.1 h.2)) in
    subst (λ p. IsTrue b ↔ IsSomeAnd p (λ found. (least ≤ length (members_in found)) × (length (members_in found) ≤ most) × All Fits (members_in found))) is inner

pub object_with : (Fits : List ℕ × Data → Type 0) (o : Option Members) (ms : Members) (ps : List (List ℕ × Data)) (b : Bool) → Some ms ≡ o → members_in ms ≡ ps → IsTrue b ↔ All Fits ps → IsTrue b ↔ IsSomeAnd o (λ found. All Fits (members_in found))
object_with Fits o ms ps b is list fits =
    let inner : IsTrue b ↔ All Fits (members_in ms) = subst (λ l. IsTrue b ↔ All Fits l) (sym list) fits in
    subst (λ p. IsTrue b ↔ IsSomeAnd p (λ found. All Fits (members_in found))) is inner
