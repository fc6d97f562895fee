-- Scaffold: What a step of the search does.
use Rattle.std.specs.Prelude.{◌≡◌, ◌⊎◌, ℕ, ◌<◌, ◌≤◌, ◌+◌, ◌*◌, Bool, not, List, length, count_by, Contains, All}
use Rattle.base_graphs.specs.Closure.{Closure}
use Rattle.base_graphs.specs.Tables.{IsMarked, IsOpen}

-- the places of a row that are not blocked
abbrev pub IsOpenIn : List ℕ → List Bool → ℕ → Type 0
IsOpenIn places blocked place = Contains places place × IsOpen blocked place

-- All places of which P holds are marked, and those newly marked stand in the work.
pub record Marks (P : ℕ → Type 0) (marks : List Bool) (work : List ℕ) (marks' : List Bool) (work' : List ℕ) : Type 0 where
  pub len : length marks' ≡ length marks
  pub kept : (p : ℕ) → IsMarked marks p → IsMarked marks' p
  pub waits : (p : ℕ) → Contains work p → Contains work' p
  pub fresh : (p : ℕ) → IsMarked marks' p → IsMarked marks p ⊎ (P p × Contains work' p)
  pub each : (p : ℕ) → P p → IsMarked marks' p
  pub stands : (p : ℕ) → Contains work' p → Contains work p ⊎ IsMarked marks' p
  pub within : All (λ p. p < length marks) work → All (λ p. p < length marks) work'
  pub spent : 2 * count_by not marks' + length work' ≤ 2 * count_by not marks + length work

-- In the search, what is marked is in the closure, the first places are marked, and what a marked place leads to is marked, unless it waits.
pub record Searches (IsFirst : ℕ → Type 0) (Goes : ℕ → ℕ → Type 0) (n : ℕ) (marks : List Bool) (work : List ℕ) : Type 0 where
  pub len : length marks ≡ n
  pub within : All (λ p. p < n) work
  pub sound : (p : ℕ) → IsMarked marks p → Closure IsFirst Goes p
  pub begun : (p : ℕ) → IsFirst p → IsMarked marks p
  pub waiting : (p : ℕ) → Contains work p → IsMarked marks p
  pub closed : (p q : ℕ) → IsMarked marks p → Goes p q → Contains work p ⊎ IsMarked marks q
