-- Promise: Links between the steps of a book (CACAO 2.0, section 4). A step is named by its place in the order of keys; a link that names no step
-- leads nowhere.
use Rattle.std.specs.Prelude.{ℕ, List, [], ◌∷◌, ◌++◌, map, filter_map, Contains, Option, option_and_then, option_to_list, slice_get}
use Rattle.std.specs.Option.{option_map_or}
use Rattle.cacao_vars.specs.declared.declarations.Var.{Var}
use Rattle.cacao_vars.specs.Declarations.{declared}
use Rattle.cacao_book.specs.declared.books.Book.{Book}
use Rattle.cacao_book.specs.declared.steps.Step.{Step}
use Rattle.cacao_book.specs.declared.step_kinds.StepKind.{StepKind}
use Rattle.cacao_book.specs.declared.step_kinds.StepKind.TheVariants.{Parallel, If, While, Switch}
use Rattle.cacao_book.specs.Steps.{place_of}

-- the keys to which a step goes on, those at which the branches of a control step begin, and those at which a run of the book begins
abbrev pub next_keys : Step → List (List ℕ)
next_keys step = option_to_list step.completion ++ option_to_list step.success ++ option_to_list step.failure

abbrev pub head_keys : StepKind → List (List ℕ)
head_keys (Parallel next) = next
head_keys (If condition on_true on_false) = on_true ∷ option_to_list on_false
head_keys (While condition on_true) = on_true ∷ []
head_keys (Switch subject cases) = map (λ c. c.step) cases
head_keys _ = []

abbrev pub start_keys : Book → List (List ℕ)
start_keys book = book.start ∷ option_to_list book.exception

-- the places of the steps that these keys name
abbrev pub places_of : Book → List (List ℕ) → List ℕ
places_of book keys = filter_map (place_of book.steps) keys

abbrev pub next_places : Book → ℕ → List ℕ
next_places book place = option_map_or (λ step. places_of book (next_keys step)) (slice_get book.steps place) []

abbrev pub head_places : Book → ℕ → List ℕ
head_places book place = option_map_or (λ step. places_of book (head_keys step.kind)) (slice_get book.steps place) []

abbrev pub start_places : Book → List ℕ
start_places book = places_of book (start_keys book)

-- a step goes on to another; a branch of a control step begins at another
abbrev pub GoesTo : Book → ℕ → ℕ → Type 0
GoesTo book from to = Contains (next_places book from) to

abbrev pub Begins : Book → ℕ → ℕ → Type 0
Begins book control place = Contains (head_places book control) place

-- what the step at a place declares of a name
abbrev pub declares : Book → List ℕ → ℕ → Option Var
declares book name place = option_and_then (λ step. declared step.variables name) (slice_get book.steps place)
