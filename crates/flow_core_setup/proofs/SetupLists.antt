-- Lists and options, as setups use them.
use Rattle.std.proofs.Common.{◌≡◌, refl, sym, subst, arith, ℕ, zero, suc, ◌+◌, ◌<◌, ◌≤◌, Bool, true, false, List, [], ◌∷◌, ◌++◌, length, map, Option, Some, None}
use Rattle.std.specs.Prelude.{IfSome, IsSome, IsSomeAnd, option_and_then, position, slice_get, if◌then◌else◌}
use Rattle.std.specs.List.{All, AllByRecursion, AllWithin, HoldsAt}
use Rattle.std.proofs.Common.{get_or, nat_lt}
use Rattle.std.specs.List.{position_or_len}
use Rattle.std.proofs.lemmas.Bool.{ltb-true, false≢true}
use Rattle.std.proofs.lemmas.List.Elements.{All-from_recursion, recursion_from_All, AllWithin-more, AllWithin-upto, All-from_all_within}

-- ---- each element

pub each_append : {X : Type 0} (P : X → Type 0) (xs ys : List X) → AllByRecursion P xs → AllByRecursion P ys → AllByRecursion P (xs ++ ys)
each_append P [] ys h k = k
each_append P (x ∷ xs) ys h k = (h.0, each_append P xs ys h.1 k)

pub each_map : {X Y : Type 0} (P : X → Type 0) (Q : Y → Type 0) (f : X → Y) → ((x : X) → P x → Q (f x)) → (xs : List X) → AllByRecursion P xs → AllByRecursion Q (map f xs)
each_map P Q f step [] h = tt
each_map P Q f step (x ∷ xs) h = (step x h.0, each_map P Q f step xs h.1)

pub all_map : {X Y : Type 0} (P : X → Type 0) (Q : Y → Type 0) (f : X → Y) → ((x : X) → P x → Q (f x)) → (xs : List X) → All P xs → All Q (map f xs)
all_map P Q f step xs h = All-from_recursion Q (map f xs) (each_map P Q f step xs (recursion_from_All P xs h))

each_first : {X : Type 0} (P : X → Type 0) (xs ys : List X) → AllByRecursion P (xs ++ ys) → AllByRecursion P xs
each_first P [] ys h = tt
each_first P (x ∷ xs) ys h = (h.0, each_first P xs ys h.1)

each_second : {X : Type 0} (P : X → Type 0) (xs ys : List X) → AllByRecursion P (xs ++ ys) → AllByRecursion P ys
each_second P [] ys h = h
each_second P (x ∷ xs) ys h = each_second P xs ys h.1

pub all_first : {X : Type 0} (P : X → Type 0) (xs ys : List X) → All P (xs ++ ys) → All P xs
all_first P xs ys h = All-from_recursion P xs (each_first P xs ys (recursion_from_All P (xs ++ ys) h))

pub all_second : {X : Type 0} (P : X → Type 0) (xs ys : List X) → All P (xs ++ ys) → All P ys
all_second P xs ys h = All-from_recursion P ys (each_second P xs ys (recursion_from_All P (xs ++ ys) h))

-- ---- places

-- what stands at a place of a list that is made of another
pub record IsMapped {X Y : Type 0} (f : X → Y) (xs : List X) (n : ℕ) (y : Y) : Type 0 where
  pub x : X
  pub at : slice_get xs n ≡ Some x
  pub is : y ≡ f x

pub mapped_at : {X Y : Type 0} (f : X → Y) (xs : List X) (n : ℕ) (y : Y) → slice_get (map f xs) n ≡ Some y → IsMapped f xs n y
mapped_at f [] n y e = absurd (cc)
mapped_at f (x ∷ xs) zero y e = record { x = x; at = refl; is = let same : f x ≡ y = cc in sym same }
mapped_at f (x ∷ xs) (suc n) y e = let found = mapped_at f xs n y e in record { x = found.x; at = found.at; is = found.is }

pub known : {X : Type 0} (o : Option X) (P : X → Type 0) (x : X) → o ≡ Some x → IfSome o P → P x
known o P x e h = rw e at h

pub there : {X : Type 0} (xs : List X) (n : ℕ) → n < length xs → IsSome (slice_get xs n)
there [] n lt = absurd (omega arith)
there (x ∷ xs) zero lt = refl
there (x ∷ xs) (suc n) lt = there xs n (omega arith)

-- the place of the first that passes is there
pub found_there : {X : Type 0} (test : X → Bool) (xs : List X) → IsSome (position test xs) → IsSome (option_and_then (λ n. slice_get xs n) (position test xs))
found_there test xs h = go (nat_lt (position_or_len test xs) (length xs)) refl h
  where
    go : (b : Bool) → nat_lt (position_or_len test xs) (length xs) ≡ b → IsSome (if b then Some (position_or_len test xs) else None) → IsSome (option_and_then (λ n. slice_get xs n) (if b then Some (position_or_len test xs) else None))
    go true e h = there xs (position_or_len test xs) (ltb-true (position_or_len test xs) (length xs) e)
    go false e h = absurd (false≢true h)

pub has_first : {X Y : Type 0} (o : Option X) (f : X → Option Y) (P : Y → Type 0) → IsSomeAnd (option_and_then f o) P → IsSome o
has_first None f P h = absurd h
has_first (Some x) f P h = refl

pub is_there : {X : Type 0} (o : Option X) (P : X → Type 0) → IsSomeAnd o P → IsSome o
is_there None P h = absurd h
is_there (Some x) P h = refl

pub weaker : {X : Type 0} (o : Option X) (P Q : X → Type 0) → ((x : X) → P x → Q x) → IsSomeAnd o P → IsSomeAnd o Q
weaker None P Q f h = h
weaker (Some x) P Q f h = f x h

pub chosen : {X : Type 0} (P : X → Type 0) (b : Bool) (x y : X) → (b ≡ true → P x) → P y → P (if b then x else y)
chosen P true x y h k = h refl
chosen P false x y h k = k

-- ---- loops that test each element

holds_here : {X : Type 0} (P : X → Type 0) (xs : List X) (i : ℕ) (x : X) → i < length xs → x ≡ get_or xs i x → P x → HoldsAt P xs i
holds_here P [] i x lt at h = absurd (omega arith)
holds_here P (y ∷ ys) zero x lt at h = λ d. subst P at h
holds_here P (y ∷ ys) (suc i) x lt at h = holds_here P ys i x (omega arith) at h

pub one_more : {X : Type 0} (P : X → Type 0) (xs : List X) (i : ℕ) (x : X) → i < length xs → x ≡ get_or xs i x → AllWithin P xs 0 i → P x → AllWithin P xs 0 (i + 1)
one_more P xs i x lt at within h = AllWithin-more P xs 0 i within (holds_here P xs i x lt at h)

pub one_all : {X : Type 0} (P : X → Type 0) (xs : List X) (i : ℕ) → length xs ≤ i → AllWithin P xs 0 i → All P xs
one_all P xs i over within = All-from_all_within P xs (AllWithin-upto P xs 0 i (length xs) (omega arith) within)

pub one_at : {X : Type 0} (P : X → Type 0) (xs : List X) (i : ℕ) (x : X) → i < length xs → x ≡ get_or xs i x → All P xs → P x
one_at P [] i x lt at all = absurd (omega arith)
one_at P (y ∷ ys) zero x lt at all = subst P (sym at) (all 0 y (omega arith))
one_at P (y ∷ ys) (suc i) x lt at all = one_at P ys i x (omega arith) at (λ k d lt. all (suc k) d (omega arith))
