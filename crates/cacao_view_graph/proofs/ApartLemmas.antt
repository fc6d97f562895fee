-- No two steps are one node.
use Rattle.std.proofs.Common.{◌≡◌, ◌≢◌, ◌∙◌, ℕ, suc, ◌+◌, ◌%◌, ◌<◌, ◌≤◌, ◌^◌, List, [], ◌∷◌, ◌++◌, map, fold, Option, Some, None, Ordering, Less, Equal, Greater, nat_cmp, refl, sym, ap, subst, arith}
use Rattle.std.specs.Prelude.{All, codes, decimal, option_and_then}
use Rattle.std.specs.List.{AllByRecursion}
use Rattle.std.specs.Option.{option_map_or}
use Rattle.std.specs.Ordering.{match_ordering, ordering_reverse}
use Rattle.std.specs.Cmp.Lexicographic.{slice_cmp, nat_list_cmp_total}
use Rattle.std.proofs.lemmas.Cmp.{tied_itself}
use Rattle.std.proofs.lemmas.Fmt.{decimal_by_steps, decimal_injective}
use Rattle.std.proofs.lemmas.List.Elements.{All-append, All-cons, All-head, All-nil, All-tail}
use Rattle.serde_json.specs.Data.{Data, Members}
use Rattle.serde_json.specs.Find.{as_object, get}
use Rattle.cacao_book_shape.specs.Members.{in_order, members_in, with_member}
use Rattle.cacao_book_shape.specs.Orders.{IsRising}
use Rattle.cacao_book_shape.specs.Shape.{workflow}
use Rattle.cacao_vars.specs.Declarations.{IsBefore}
use Rattle.cacao_view_graph.specs.Laws.{AreApart, steps_from}
use Rattle.cacao_view_graph.specs.Statements.{Place, place_text}

-- ---- members in order are rising

before_all : (name first : List ℕ) (ms : List (List ℕ × Data)) → IsBefore name first → AllByRecursion (λ later. IsBefore first later.0) ms → AllByRecursion (λ later. IsBefore name later.0) ms
before_all name first [] h all = tt
before_all name first (m ∷ ms) h all = (nat_list_cmp_total.trans name first m.0 h all.0, before_all name first ms h all.1)

each_cases : {X : Type 0} (P : X → Type 0) (o : Ordering) (xs ys zs : List X) → AllByRecursion P xs → AllByRecursion P ys → AllByRecursion P zs → AllByRecursion P (match_ordering o xs ys zs)
each_cases P Less xs ys zs h k l = h
each_cases P Equal xs ys zs h k l = k
each_cases P Greater xs ys zs h k l = l

each_with : (P : List ℕ × Data → Type 0) (done : List (List ℕ × Data)) (new : List ℕ × Data) → P new → AllByRecursion P done → AllByRecursion P (with_member done new)
each_with P [] new h all = (h, tt)
each_with P (m ∷ ms) new h all =
    each_cases P (slice_cmp nat_cmp new.0 m.0) (new ∷ m ∷ ms) (m ∷ ms) (m ∷ with_member ms new) (h, all) all (all.0, each_with P ms new h all.1)

rising_cases : (o : Ordering) (m new : List ℕ × Data) (ms more : List (List ℕ × Data)) → slice_cmp nat_cmp new.0 m.0 ≡ o → IsRising (m ∷ ms) → (IsBefore m.0 new.0 → AllByRecursion (λ later. IsBefore m.0 later.0) more) → IsRising more
    → IsRising (match_ordering o (new ∷ m ∷ ms) (m ∷ ms) (m ∷ more))
rising_cases Less m new ms more e rising first rest = ((e, before_all new.0 m.0 ms e rising.0), rising)
rising_cases Equal m new ms more e rising first rest = rising
rising_cases Greater m new ms more e rising first rest = (first (nat_list_cmp_total.antisymm m.0 new.0 ∙ ap ordering_reverse e), rest)

rising_with : (done : List (List ℕ × Data)) (new : List ℕ × Data) → IsRising done → IsRising (with_member done new)
rising_with [] new rising = (tt, tt)
rising_with (m ∷ ms) new rising =
    rising_cases (slice_cmp nat_cmp new.0 m.0) m new ms (with_member ms new) refl rising (λ h. each_with (λ later. IsBefore m.0 later.0) ms new h rising.0) (rising_with ms new rising.1)

rising_fold : (done ms : List (List ℕ × Data)) → IsRising done → IsRising (fold with_member done ms)
rising_fold done [] rising = rising
rising_fold done (m ∷ ms) rising = rising_fold (with_member done m) ms (rising_with done m rising)

rising_found : (o : Option Members) → IsRising (option_map_or (λ ms. in_order (members_in ms)) o [])
rising_found None = tt
rising_found (Some ms) = rising_fold [] (members_in ms) tt

pub rising_steps : (t : Data) → IsRising (workflow t)
rising_steps t = rising_found (option_and_then as_object (get (codes "workflow") t))

-- ---- steps are apart

unlike_both : {A : Type 0} (x : A) (xs ys : List A) → AllByRecursion (λ (y : A). x ≢ y) xs → AllByRecursion (λ (y : A). x ≢ y) ys → AllByRecursion (λ (y : A). x ≢ y) (xs ++ ys)
unlike_both x [] ys h k = k
unlike_both x (z ∷ zs) ys h k = (h.0, unlike_both x zs ys h.1 k)

pub apart_append : {A : Type 0} (xs ys : List A) → AreApart xs → AreApart ys → AllByRecursion (λ (x : A). AllByRecursion (λ (y : A). x ≢ y) ys) xs → AreApart (xs ++ ys)
apart_append [] ys h k between = k
apart_append (x ∷ xs) ys h k between = (unlike_both x xs ys h.0 between.0, apart_append xs ys h.1 k between.1)

less_unlike : Less ≡ Equal → ⊥
less_unlike e = cc

pub before_unlike : (a b : List ℕ) → IsBefore a b → a ≢ b
before_unlike a b before same =
    let tied : slice_cmp nat_cmp a a ≡ Equal = tied_itself nat_list_cmp_total a in
    let less : slice_cmp nat_cmp a a ≡ Less = subst (λ c. slice_cmp nat_cmp a c ≡ Less) (sym same) before in
    less_unlike (sym less ∙ tied)

abbrev place_at : ℕ → List ℕ → Place
place_at number key = (number, key)

abbrev keyed : ℕ → List (List ℕ × Data) → List Place
keyed number ms = map (λ m. (number, m.0)) ms

key_apart : (number : ℕ) (key : List ℕ) (ms : List (List ℕ × Data)) → AllByRecursion (λ later. IsBefore key later.0) ms → AllByRecursion (λ (y : Place). place_at number key ≢ y) (keyed number ms)
key_apart number key [] h = tt
key_apart number key (later ∷ ms) h = (λ e. before_unlike key later.0 h.0 (ap (λ (p : Place). p.1) e), key_apart number key ms h.1)

keys_apart : (number : ℕ) (ms : List (List ℕ × Data)) → IsRising ms → AreApart (keyed number ms)
keys_apart number [] h = tt
keys_apart number (m ∷ ms) h = (key_apart number m.0 ms h.0, keys_apart number ms h.1)

-- what is of later playbooks
abbrev pub FromOn : {A : Type 0} → ℕ → List (ℕ × A) → Type 0
FromOn {A} number ps = AllByRecursion (λ (p : ℕ × A). number ≤ p.0) ps

pub weaker : {A : Type 0} (number : ℕ) (ps : List (ℕ × A)) → FromOn (suc number) ps → FromOn number ps
weaker number [] h = tt
weaker number (p ∷ ps) h = (omega (arith, h.0), weaker number ps h.1)

own_number : (number : ℕ) (ms : List (List ℕ × Data)) (ps : List Place) → FromOn number ps → FromOn number (keyed number ms ++ ps)
own_number number [] ps h = h
own_number number (m ∷ ms) ps h = (omega arith, own_number number ms ps h)

later_numbers : (number : ℕ) (ts : List Data) → FromOn number (steps_from number ts)
later_numbers number [] = tt
later_numbers number (t ∷ ts) = own_number number (workflow t) (steps_from (suc number) ts) (weaker number (steps_from (suc number) ts) (later_numbers (suc number) ts))

other_number : {A : Type 0} (x p : ℕ × A) → suc x.0 ≤ p.0 → x ≢ p
other_number {A} x p more e = let same : x.0 ≡ p.0 = ap (λ (q : ℕ × A). q.0) e in omega (arith, more)

pub number_apart : {A : Type 0} (x : ℕ × A) (ps : List (ℕ × A)) → FromOn (suc x.0) ps → AllByRecursion (λ (y : ℕ × A). x ≢ y) ps
number_apart x [] h = tt
number_apart x (p ∷ ps) h = (other_number x p h.0, number_apart x ps h.1)

numbers_apart : (number : ℕ) (ms : List (List ℕ × Data)) (ps : List Place) → FromOn (suc number) ps → AllByRecursion (λ (x : Place). AllByRecursion (λ (y : Place). x ≢ y) ps) (keyed number ms)
numbers_apart number [] ps h = tt
numbers_apart number (m ∷ ms) ps h = (number_apart (place_at number m.0) ps h, numbers_apart number ms ps h)

steps_apart : (number : ℕ) (ts : List Data) → AreApart (steps_from number ts)
steps_apart number [] = tt
steps_apart number (t ∷ ts) =
    apart_append (keyed number (workflow t)) (steps_from (suc number) ts) (keys_apart number (workflow t) (rising_steps t)) (steps_apart (suc number) ts)
    (numbers_apart number (workflow t) (steps_from (suc number) ts) (later_numbers (suc number) ts))

pub nodes_apart : (trees : List Data) → AreApart (steps_from 0 trees)
nodes_apart trees = steps_apart 0 trees

-- ---- and so are their names

abbrev pub IsSolid : List ℕ → Type 0
IsSolid bytes = All (λ b. b ≢ 32) bytes

one_digit : (n : ℕ) → n < 10 → IsSolid ((48 + n) ∷ [])
one_digit n lt = All-cons (λ b. b ≢ 32) (48 + n) [] (λ e. omega (arith, e)) (All-nil (λ b. b ≢ 32))

more_digits : (n : ℕ) (ds : List ℕ) → 10 ≤ n → IsSolid ds → IsSolid (ds ++ ((48 + n % 10) ∷ []))
more_digits n ds low h = All-append (λ b. b ≢ 32) ds ((48 + n % 10) ∷ []) h (All-cons (λ b. b ≢ 32) (48 + n % 10) [] (λ e. omega (arith, e)) (All-nil (λ b. b ≢ 32)))

pub solid_number : (n : ℕ) → n < 2 ^ 64 → IsSolid (decimal n)
solid_number n small = decimal_by_steps (λ _ ds. IsSolid ds) one_digit more_digits n small

pub same_head : (a b : ℕ) (k l : List ℕ) → a ∷ k ≡ b ∷ l → a ≡ b
same_head a b k l e = cc

pub same_tail : (a b : ℕ) (k l : List ℕ) → a ∷ k ≡ b ∷ l → k ≡ l
same_tail a b k l e = cc

same_list : (a b : ℕ) (k l : List ℕ) → a ≡ b → k ≡ l → a ∷ k ≡ b ∷ l
same_list a b k l e f = cc

-- what stands before the first space, and behind it
cut : (xs ys k l : List ℕ) → IsSolid xs → IsSolid ys → xs ++ 32 ∷ k ≡ ys ++ 32 ∷ l → (xs ≡ ys) × (k ≡ l)
cut [] [] k l h g e = (refl, same_tail 32 32 k l e)
cut [] (y ∷ ys) k l h g e = absurd (All-head (λ b. b ≢ 32) y ys g (sym (same_head 32 y k (ys ++ 32 ∷ l) e)))
cut (x ∷ xs) [] k l h g e = absurd (All-head (λ b. b ≢ 32) x xs h (same_head x 32 (xs ++ 32 ∷ k) l e))
cut (x ∷ xs) (y ∷ ys) k l h g e =
    let parts = cut xs ys k l (All-tail (λ b. b ≢ 32) x xs h) (All-tail (λ b. b ≢ 32) y ys g) (same_tail x y (xs ++ 32 ∷ k) (ys ++ 32 ∷ l) e) in
    (same_list x y xs ys (same_head x y (xs ++ 32 ∷ k) (ys ++ 32 ∷ l) e) parts.0, parts.1)

same_place : (m n : ℕ) (k l : List ℕ) → m ≡ n → k ≡ l → place_at m k ≡ place_at n l
same_place m n k l e f = cc

pub names_apart : (one other : Place) → one.0 < 2 ^ 32 → other.0 < 2 ^ 32 → place_text one ≡ place_text other → one ≡ other
names_apart one other small small' e =
    let wide : one.0 < 2 ^ 64 = omega arith in
    let wide' : other.0 < 2 ^ 64 = omega arith in
    let parts = cut (decimal one.0) (decimal other.0) one.1 other.1 (solid_number one.0 wide) (solid_number other.0 wide') e in
    same_place one.0 other.0 one.1 other.1 (decimal_injective one.0 other.0 wide wide' parts.0) parts.1
