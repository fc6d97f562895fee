-- Promise: In which cluster a step is drawn. In DOT a node stands in one cluster alone.
use Rattle.std.specs.Prelude.{◌≡◌, ℕ, List, Option, Some, None, slice_get}
use Rattle.cacao_book.specs.declared.books.Book.{Book}
use Rattle.cacao_book.specs.declared.steps.Step.{Step}
use Rattle.cacao_check_regions.specs.Regions.{InMain, InRegion}

-- of all regions the step at a place stands in that of this control step alone
pub record IsAlone (book : Book) (place control : ℕ) : Type 0 where
  pub inside : InRegion book control place
  pub not_main : ¬ InMain book place
  pub only : (other : ℕ) → InRegion book other place → other ≡ control

-- The step at a place is drawn in the cluster of the region of the control step with this key. Where it stands in the main region, in the
-- regions of several control steps, or in none, it is drawn in that of the playbook.
abbrev pub IsHome : Book → ℕ → Option (List ℕ) → Type 0
IsHome book place None = (control : ℕ) → ¬ IsAlone book place control
IsHome book place (Some key) =
    (control : ℕ) × IsAlone book place control × ((step : Step) × (slice_get book.steps control ≡ Some step) × (step.key ≡ key))
