-- Promise: Which steps declare a name.
use Rattle.std.specs.Prelude.{◌≡◌, ◌⊎◌, ◌↔◌, ℕ, List, [], Contains, IsSome, unwrap_or, ◌++◌, ◌∷◌, if◌then◌else◌}
use Rattle.std.specs.Map.{lookup}
use Rattle.std.specs.BTreeMap.{is_at}
use Rattle.std.specs.Cmp.Lexicographic.{slice_cmp}
use Rattle.std.specs.Ordering.{nat_cmp}
use Rattle.cacao_vars.specs.declared.declarations.Var.{Var}
use Rattle.cacao_vars.specs.Declarations.{declared}
use Rattle.cacao_book.specs.declared.books.Book.{Book}
use Rattle.cacao_check_steps.specs.Links.{declares}

-- the places that stand under a name
abbrev pub places_under : List (List ℕ × List ℕ) → List ℕ → List ℕ
places_under entries name = unwrap_or (lookup (is_at (slice_cmp nat_cmp name)) entries) []

-- under each name stand the places of the steps that declare it
abbrev pub AreDeclarersOf : Book → List (List ℕ × List ℕ) → Type 0
AreDeclarersOf book entries = (name : List ℕ) (place : ℕ) →
    Contains (places_under entries name) place ↔ IsSome (declares book name place)

-- a place was put at the end of those under a name
abbrev pub Puts : List (List ℕ × List ℕ) → List (List ℕ × List ℕ) → List ℕ → ℕ → Type 0
Puts old new name place = (other : List ℕ) → places_under new other
    ≡ (if is_at (slice_cmp nat_cmp name) other then places_under old name ++ place ∷ [] else places_under old other)

-- a place was added under a name
abbrev pub Adds : List (List ℕ × List ℕ) → List (List ℕ × List ℕ) → List ℕ → ℕ → Type 0
Adds old new name place = (other : List ℕ) (at : ℕ) → Contains (places_under new other) at
    ↔ (Contains (places_under old other) at ⊎ ((name ≡ other) × (place ≡ at)))

-- a place was added under each name that is declared there
abbrev pub AddsEach : List (List ℕ × List ℕ) → List (List ℕ × List ℕ) → List Var → ℕ → Type 0
AddsEach old new vars place = (other : List ℕ) (at : ℕ) → Contains (places_under new other) at
    ↔ (Contains (places_under old other) at ⊎ (IsSome (declared vars other) × (place ≡ at)))
