-- Promise: Guards inside which places stand.
use Rattle.std.specs.Prelude.{◌≡◌, ◌≢◌, ◌⊎◌, ℕ, Bool, true, List, Option, Some, None, slice_index_or, Contains}
use Rattle.base_graphs.specs.Closure.{Closure}
use Rattle.base_graphs.specs.Tables.{IsMarked, row}

-- a free edge, or a guarded one that leaves another place than the guard
abbrev pub LeadsBeside : List (List ℕ) → List (List ℕ) → ℕ → ℕ → ℕ → Type 0
LeadsBeside free guarded guard from to = Contains (row free from) to ⊎ ((from ≢ guard) × Contains (row guarded from) to)

-- each way from the first places to a place takes a guarded edge that leaves the guard
abbrev pub Guards : List (List ℕ) → List (List ℕ) → List ℕ → ℕ → ℕ → Type 0
Guards free guarded begin guard place = ¬ Closure (Contains begin) (LeadsBeside free guarded guard) place

-- the innermost guard that is told of a place
abbrev pub inner_of : List (Option ℕ) → ℕ → Option ℕ
inner_of inner place = slice_index_or inner place None

-- The guards that are told of a place: its innermost one, and those that are told of that.
pub data IsInside (inner : List (Option ℕ)) : ℕ → ℕ → Type 0 where
  nearest : {place guard : ℕ} → inner_of inner place ≡ Some guard → IsInside inner place guard
  further : {place between guard : ℕ} → inner_of inner place ≡ Some between → IsInside inner between guard
      → IsInside inner place guard

-- each way from the first places to a place takes a guarded edge out of each guard that is told of the place
abbrev pub TellsGuards : List (List ℕ) → List (List ℕ) → List ℕ → List (Option ℕ) → Type 0
TellsGuards free guarded begin inner = (place guard : ℕ) → IsInside inner place guard → Guards free guarded begin guard place

-- ---- how that is found

-- a place is inside each place to which it has a jump
abbrev pub HasJumps : List (Option ℕ) → List (Option ℕ) → Type 0
HasJumps inner jumps = (place jump : ℕ) → inner_of jumps place ≡ Some jump → IsInside inner place jump

-- An edge fits what is told: the place to which it leads was found, and the innermost guard of that place is told of the place from
-- which the edge leads, or is that place, if the edge is guarded.
abbrev pub Fits : Bool → List Bool → List (Option ℕ) → ℕ → ℕ → Type 0
Fits is_guarded found inner from to =
    IsMarked found to
    × ((guard : ℕ) → inner_of inner to ≡ Some guard → ((is_guarded ≡ true) × (from ≡ guard)) ⊎ IsInside inner from guard)

-- the same for all edges of a table that leave places that were found
abbrev pub AllFit : Bool → List Bool → List (Option ℕ) → List (List ℕ) → Type 0
AllFit is_guarded found inner table =
    (from to : ℕ) → IsMarked found from → Contains (row table from) to → Fits is_guarded found inner from to

-- a first place was found, and is inside none
abbrev pub StandsFree : List Bool → List (Option ℕ) → ℕ → Type 0
StandsFree found inner place = IsMarked found place × (inner_of inner place ≡ None)
