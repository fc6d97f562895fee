-- Promise: What a step sees of a name, as a list.
use Rattle.std.specs.Prelude.{◌≡◌, ◌≢◌, ◌⊎◌, ◌↔◌, ℕ, ◌<◌, List, length, Bool, Contains, Option, Some, None, slice_get}
use Rattle.cacao_vars.specs.declared.declarations.Var.{Var}
use Rattle.cacao_vars.specs.Declarations.{declared}
use Rattle.cacao_book.specs.declared.books.Book.{Book}
use Rattle.cacao_book.specs.declared.steps.Step.{Step}
use Rattle.base_graphs.specs.Closure.{Closure}
use Rattle.base_graphs.specs.Tables.{IsMarked}
use Rattle.cacao_check_regions.specs.declared.seen.Sight.{Sight}
use Rattle.cacao_check_regions.specs.declared.seen.Sight.TheVariants.{Declared, Missing}
use Rattle.cacao_check_steps.specs.Links.{start_places, head_places, GoesTo, Begins, declares}
use Rattle.cacao_check_regions.specs.Regions.{Sees}

-- a declaration, or that there may be none, and the same as a sight
abbrev pub declaration_of : Sight → Option Var
declaration_of (Declared var) = Some var
declaration_of Missing = None

abbrev pub sight_of : Option Var → Sight
sight_of (Some var) = Declared var
sight_of None = Missing

-- the list has exactly what the step at the place sees of the name
abbrev pub HasSeen : Book → List ℕ → ℕ → List Sight → Type 0
HasSeen book name place items = (sight : Sight) → Contains items sight ↔ Sees book name place (declaration_of sight)

-- each item stands there once
abbrev pub IsOnce : List Sight → Type 0
IsOnce items = (i j : ℕ) → i < j → j < length items → slice_get items i ≢ slice_get items j

-- one of the places is marked
abbrev pub HasMarked : List ℕ → List Bool → Type 0
HasMarked places marks = (place : ℕ) × Contains places place × IsMarked marks place

-- the step declares the name so, and one of the places is marked
abbrev pub IsSeenAt : Step → List ℕ → List ℕ → List Bool → Sight → Type 0
IsSeenAt step name heads marks sight =
    (var : Var) × (declared step.variables name ≡ Some var) × HasMarked heads marks × (sight ≡ Declared var)

-- what is seen where these places are marked: at a control step of which one head is marked, or at the start
abbrev pub IsSeenAtControl : Book → List ℕ → List Bool → Sight → Type 0
IsSeenAtControl book name marks sight =
    (control : ℕ) × (var : Var) × (declares book name control ≡ Some var) × HasMarked (head_places book control) marks
    × (sight ≡ Declared var)

abbrev pub IsSeenFrom : Book → List ℕ → List Bool → Sight → Type 0
IsSeenFrom book name marks sight =
    IsSeenAtControl book name marks sight
    ⊎ (HasMarked (start_places book) marks × (sight ≡ sight_of (declared book.variables name)))

-- the places from which what stands outside a place flows to it
abbrev pub FlowsBack : Book → List ℕ → ℕ → ℕ → Type 0
FlowsBack book name to from = GoesTo book from to ⊎ (Begins book from to × (declares book name from ≡ None))

abbrev pub IsAround : Book → List ℕ → ℕ → ℕ → Type 0
IsAround book name place = Closure (λ p. p ≡ place) (FlowsBack book name)
