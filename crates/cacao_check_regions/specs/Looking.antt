-- Promise: Regions and sights, by the keys of steps.
use Rattle.std.specs.Prelude.{◌↔◌, ℕ, List, Contains, Option, MatchOption, IsSomeAnd}
use Rattle.cacao_book.specs.declared.books.Book.{Book}
use Rattle.cacao_book.specs.Steps.{place_of}
use Rattle.cacao_check_regions.specs.declared.seen.Sight.{Sight}
use Rattle.cacao_check_regions.specs.Regions.{InMain, InRegion, Sees}
use Rattle.cacao_check_regions.specs.Seeing.{declaration_of, IsOnce}

-- the step with a key stands in the main region, or in that of the step with another key
abbrev pub StandsIn : Book → Option (List ℕ) → List ℕ → Type 0
StandsIn book control key =
    IsSomeAnd (place_of book.steps key)
    (λ place. MatchOption control (InMain book place) (λ c. IsSomeAnd (place_of book.steps c) (λ at. InRegion book at place)))

-- the list has exactly what the step with a key may see of a name, each thing once
pub record ListsSights (book : Book) (key name : List ℕ) (sights : List Sight) : Type 0 where
  pub exact : (sight : Sight) → Contains sights sight
      ↔ IsSomeAnd (place_of book.steps key) (λ place. Sees book name place (declaration_of sight))
  pub once : IsOnce sights
