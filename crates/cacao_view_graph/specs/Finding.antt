-- Scaffold: What a look for the home of a step finds.
use Rattle.std.specs.Prelude.{◌≡◌, ℕ, ◌≤◌, ◌<◌, Bool, List, [], Option, Some, None, slice_index_or}
use Rattle.base_graphs.specs.Tables.{IsMarked}
use Rattle.cacao_check_regions.specs.declared.regions.Regions.{Regions}

-- the region of the control step at this place has the place
abbrev pub Has : List (List Bool) → ℕ → ℕ → Type 0
Has rows place control = IsMarked (slice_index_or rows control []) place

abbrev pub HasAlone : List (List Bool) → ℕ → ℕ → Type 0
HasAlone rows place control = Has rows place control × ((other : ℕ) → Has rows place other → other ≡ control)

-- the first region from one on that has the place
abbrev pub FindsNext : List (List Bool) → ℕ → ℕ → Option ℕ → Type 0
FindsNext rows place from None = (control : ℕ) → from ≤ control → ¬ Has rows place control
FindsNext rows place from (Some first) =
    Has rows place first × (from ≤ first) × ((control : ℕ) → from ≤ control → control < first → ¬ Has rows place control)

-- the only one that has it
abbrev pub FindsRegion : List (List Bool) → ℕ → Option ℕ → Type 0
FindsRegion rows place None = (control : ℕ) → ¬ HasAlone rows place control
FindsRegion rows place (Some control) = HasAlone rows place control

-- the same, where the main region has it not
abbrev pub FindsHome : Regions → ℕ → Option ℕ → Type 0
FindsHome regions place None = (control : ℕ) → HasAlone regions.controls.items place control → IsMarked regions.main place
FindsHome regions place (Some control) =
    HasAlone regions.controls.items place control × (¬ IsMarked regions.main place)
