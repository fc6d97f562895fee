-- Scaffold: Entries that join a list.
use Rattle.std.specs.Prelude.{◌≡◌, ℕ, List, ◌++◌}
use Rattle.run_journal.specs.Layout.{Entries}

-- the whole entries at the front of the bytes joined the list, and this stands behind them
pub record Joins (bytes : List ℕ) (old new : List (List ℕ)) (rest : List ℕ) : Type 0 where
  pub more : List (List ℕ)
  pub has : Entries bytes more rest
  pub is : new ≡ old ++ more
