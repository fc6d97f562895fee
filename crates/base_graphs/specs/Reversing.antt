-- Scaffold: What a step of turning a table round does.
use Rattle.std.specs.Prelude.{◌≡◌, ◌⊎◌, ◌↔◌, ℕ, List, length, Contains}
use Rattle.base_graphs.specs.Tables.{row}

-- the new table has what the old one has, and edges from these places to one more
pub record AddsEdges (from : ℕ) (places : List ℕ) (old new : List (List ℕ)) : Type 0 where
  pub len : length new ≡ length old
  pub edges : (to other : ℕ) → Contains (row new to) other ↔ (Contains (row old to) other ⊎ (Contains places to × (from ≡ other)))
