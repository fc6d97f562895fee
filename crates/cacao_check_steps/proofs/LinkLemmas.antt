-- The places of the steps that keys name.
use Rattle.std.proofs.Common.{◌≡◌, ℕ, suc, ◌+◌, ◌<◌, Bool, true, false, cond, List, [], ◌∷◌, ◌++◌, length, get_or, take, map, filter_map, Option, Some, None, option_map, option_to_list, refl, sym, ap, ◌∙◌, append_assoc, arith}
use Rattle.std.specs.Prelude.{All}
use Rattle.std.specs.List.{cons_option}
use Rattle.std.specs.Str.{bytes_eq}
use Rattle.std.proofs.lemmas.List.{take_more, map-append}
use Rattle.std.proofs.lemmas.List.Elements.{filter_map-append, All-cons, All-nil}
use Rattle.base_graphs.specs.Tables.{IsWithin}
use Rattle.cacao_book.specs.declared.steps.Step.{Step}
use Rattle.cacao_book.specs.Steps.{place_of}

-- ---- one more key

one_found : (o : Option ℕ) → cons_option o [] ≡ option_to_list o
one_found None = refl
one_found (Some x) = refl

pub keys_more : {X : Type 0} (f : X → List ℕ) (g : List ℕ → Option ℕ) (xs : List X) (i : ℕ) (x : X) (base p p' : List ℕ) → i < length xs → x ≡ get_or xs i x → p ≡ base ++ filter_map g (map f (take i xs)) → p' ≡ p ++ option_to_list (g (f x)) → p' ≡ base ++ filter_map g (map f (take (i + 1) xs))
keys_more f g xs i x base p p' lt at before now =
    let done : List ℕ = filter_map g (map f (take i xs)) in
    let tail : filter_map g (map f (take (i + 1) xs)) ≡ done ++ option_to_list (g (f x)) =
    ap (λ l. filter_map g (map f l)) (take_more xs i x lt ∙ ap (λ z. take i xs ++ z ∷ []) (sym at))
    ∙ ap (filter_map g) (map-append f (take i xs) (x ∷ [])) ∙ filter_map-append g (map f (take i xs)) (f x ∷ []) ∙ ap (λ l. done ++ l) (one_found (g (f x))) in
    now ∙ ap (λ l. l ++ option_to_list (g (f x))) before ∙ append_assoc base done (option_to_list (g (f x))) ∙ ap (λ l. base ++ l) (sym tail)

same_map : (xs : List (List ℕ)) → map (λ x. x) xs ≡ xs
same_map [] = refl
same_map (x ∷ xs) = ap (λ l. x ∷ l) (same_map xs)

pub names_more : (g : List ℕ → Option ℕ) (xs : List (List ℕ)) (i : ℕ) (x : List ℕ) (base p p' : List ℕ) → i < length xs → x ≡ get_or xs i x → p ≡ base ++ filter_map g (take i xs) → p' ≡ p ++ option_to_list (g x) → p' ≡ base ++ filter_map g (take (i + 1) xs)
names_more g xs i x base p p' lt at before now =
    keys_more (λ k. k) g xs i x base p p' lt at (before ∙ ap (λ l. base ++ filter_map g l) (sym (same_map (take i xs)))) now ∙ ap (λ l. base ++ filter_map g l) (same_map (take (i + 1) xs))

-- ---- places of steps stand within the book

later_within : (n : ℕ) (o : Option ℕ) (p : ℕ) → ((q : ℕ) → o ≡ Some q → q < n) → option_map suc o ≡ Some p → p < suc n
later_within n None p h e = absurd (cc)
later_within n (Some q) p h e = let lt : q < n = h q refl in let same : suc q ≡ p = cc in omega arith

here_within : (n : ℕ) (b : Bool) (o : Option ℕ) (p : ℕ) → ((q : ℕ) → o ≡ Some q → q < n) → cond b (Some 0) (option_map suc o) ≡ Some p → p < suc n
here_within n true o p h e = let same : 0 ≡ p = cc in omega arith
here_within n false o p h e = later_within n o p h e

pub place_within : (steps : List Step) (key : List ℕ) (p : ℕ) → place_of steps key ≡ Some p → p < length steps
place_within [] key p e = absurd (cc)
place_within (s ∷ steps) key p e = here_within (length steps) (bytes_eq s.key key) (place_of steps key) p (place_within steps key) e

more_within : (n : ℕ) (o : Option ℕ) (rest : List ℕ) → ((q : ℕ) → o ≡ Some q → q < n) → All (λ p. p < n) rest → All (λ p. p < n) (cons_option o rest)
more_within n None rest h all = all
more_within n (Some q) rest h all = All-cons (λ p. p < n) q rest (h q refl) all

-- the places of keys
pub places_within : (steps : List Step) (keys : List (List ℕ)) → All (λ p. p < length steps) (filter_map (place_of steps) keys)
places_within steps [] = All-nil (λ p. p < length steps)
places_within steps (key ∷ keys) = more_within (length steps) (place_of steps key) (filter_map (place_of steps) keys) (place_within steps key) (places_within steps keys)

-- the rows of a table of places
pub rows_within : (steps : List Step) (f : Step → List (List ℕ)) (some_steps : List Step) → IsWithin (length steps) (map (λ step. filter_map (place_of steps) (f step)) some_steps)
rows_within steps f [] = All-nil (λ row. All (λ p. p < length steps) row)
rows_within steps f (s ∷ some_steps) =
    All-cons (λ row. All (λ p. p < length steps) row) (filter_map (place_of steps) (f s)) (map (λ step. filter_map (place_of steps) (f step)) some_steps) (places_within steps (f s)) (rows_within steps f some_steps)
