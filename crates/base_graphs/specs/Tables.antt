-- Promise: Sets of places as lists of marks, and tables of edges.
use Rattle.std.specs.Prelude.{◌≡◌, ◌⊎◌, ◌↔◌, ℕ, ◌<◌, Bool, true, false, List, [], slice_index_or, Contains, All}

-- the place is marked; past the end of the list no place is
abbrev pub IsMarked : List Bool → ℕ → Type 0
IsMarked marks place = slice_index_or marks place false ≡ true

abbrev pub IsOpen : List Bool → ℕ → Type 0
IsOpen marks place = slice_index_or marks place false ≡ false

-- what stands in the row of a place
abbrev pub row : List (List ℕ) → ℕ → List ℕ
row rows place = slice_index_or rows place []

-- a free edge, or a guarded one that leaves no shut place and enters no blocked one
abbrev pub Leads : List (List ℕ) → List (List ℕ) → List Bool → List Bool → ℕ → ℕ → Type 0
Leads free guarded shut blocked from to =
    Contains (row free from) to ⊎ (IsOpen shut from × Contains (row guarded from) to × IsOpen blocked to)

-- each place in a table is below n
abbrev pub IsWithin : ℕ → List (List ℕ) → Type 0
IsWithin n rows = All (λ places. All (λ place. place < n) places) rows

-- one table has an edge exactly where the other has it the other way round
abbrev pub IsReverse : List (List ℕ) → List (List ℕ) → Type 0
IsReverse rows back = (to from : ℕ) → Contains (row back to) from ↔ Contains (row rows from) to
