-- Promise: What contracts see of packed lists.
use Rattle.std.specs.Prelude.{ℕ, ◌+◌, List, [], ◌∷◌, length}

pub record PackedView : Type 0 where
  pub items : List (List ℕ)
  pub places : ℕ  -- so many lists more take no memory
  pub room : ℕ  -- where they have so many bytes at most together

-- how many bytes the lists have together
abbrev pub total : List (List ℕ) → ℕ
total [] = 0
total (item ∷ items) = length item + total items
