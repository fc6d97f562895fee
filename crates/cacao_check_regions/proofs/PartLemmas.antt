-- The links of steps by what was read of them.
use Rattle.std.proofs.Common.{◌≡◌, ℕ, suc, List, [], ◌∷◌, ◌++◌, length, map, filter_map, Option, Some, None, option_and_then, option_to_list, slice_get, refl, sym, ap, ap₂, ◌∙◌, arith}
use Rattle.std.specs.List.{cons_option}
use Rattle.std.proofs.lemmas.List.Elements.{filter_map-append}
use Rattle.cacao_book.specs.declared.books.Book.{Book}
use Rattle.cacao_book.specs.declared.steps.Step.{Step}
use Rattle.cacao_book.specs.Steps.{place_of}
use Rattle.cacao_check_steps.specs.declared.parts.Parts.{Parts}
use Rattle.cacao_check_steps.specs.Links.{next_keys, head_keys, places_of}
use Rattle.cacao_check_steps.specs.Parts.{ReadsStep, ReadsSteps}
use Rattle.cacao_check_regions.specs.Charts.{next_row}

-- two lists of the same length that are seen alike at each place
same_rows : {X Y Z : Type 0} (f : X → Z) (g : Y → Z) (xs : List X) (ys : List Y) → length ys ≡ length xs
    → ((k : ℕ) (x : X) (y : Y) → slice_get xs k ≡ Some x → slice_get ys k ≡ Some y → g y ≡ f x) → map g ys ≡ map f xs
same_rows f g [] [] n h = refl
same_rows f g [] (y ∷ ys) n h = absurd (let e : length (y ∷ ys) ≡ 0 = n in omega arith)
same_rows f g (x ∷ xs) [] n h = absurd (let e : 0 ≡ length (x ∷ xs) = n in omega arith)
same_rows f g (x ∷ xs) (y ∷ ys) n h =
    ap₂ (λ z zs. z ∷ zs) (h 0 x y refl refl)
    (same_rows f g xs ys (let e : length (y ∷ ys) ≡ length (x ∷ xs) = n in omega arith) (λ k a b p q. h (suc k) a b p q))

one_found : (o : Option ℕ) → option_to_list o ≡ cons_option o []
one_found None = refl
one_found (Some x) = refl

-- the place to which a link leads, if there is one
one_link : (find : List ℕ → Option ℕ) (link : Option (List ℕ)) (place : Option ℕ) → place ≡ option_and_then find link → option_to_list place ≡ filter_map find (option_to_list link)
one_link find None place e = ap option_to_list e
one_link find (Some key) place e = ap option_to_list e ∙ one_found (find key)

next_of : (books : List Book) (book : Book) (step : Step) (parts : Parts) → ReadsStep books book step parts → next_row parts ≡ places_of book (next_keys step)
next_of books book step parts r =
    let find : List ℕ → Option ℕ = place_of book.steps in
    let first : List (List ℕ) = option_to_list step.completion in
    let second : List (List ℕ) = option_to_list step.success in
    let third : List (List ℕ) = option_to_list step.failure in
    ap₂ (λ (a b : List ℕ). a ++ b)
    (ap₂ (λ (a b : List ℕ). a ++ b) (one_link find step.completion parts.completion r.completion) (one_link find step.success parts.success r.success)
    ∙ sym (filter_map-append find first second))
    (one_link find step.failure parts.failure r.failure)
    ∙ sym (filter_map-append find (first ++ second) third)

-- the places to which the steps of a book go on, and those at which their branches begin
pub next_read : (books : List Book) (book : Book) (all : List Parts) → ReadsSteps books book all → map next_row all ≡ map (λ step. places_of book (next_keys step)) book.steps
next_read books book all r =
    same_rows (λ (step : Step). places_of book (next_keys step)) next_row book.steps all r.len (λ k step parts a b. next_of books book step parts (r.each k step parts a b))

pub heads_read : (books : List Book) (book : Book) (all : List Parts) → ReadsSteps books book all
    → map (λ (one : Parts). one.heads) all ≡ map (λ step. places_of book (head_keys step.kind)) book.steps
heads_read books book all r =
    same_rows (λ (step : Step). places_of book (head_keys step.kind)) (λ (one : Parts). one.heads) book.steps all r.len (λ k step parts a b. (r.each k step parts a b).heads)
