-- Promise: Where the texts of a journal's Begin differ from those that a run is given.
use Rattle.std.specs.Prelude.{◌≡◌, ◌≢◌, ◌⊎◌, ℕ, ◌<◌, List, length, slice_get}
use Rattle.flow_core_rules.specs.Givens.{Given}

-- the first playbook whose texts differ, or which one of the two lacks
pub record IsFirstOther (held asked : List (List ℕ)) (index : ℕ) : Type 0 where
  pub differs : slice_get held index ≢ slice_get asked index
  pub before : (k : ℕ) → k < index → slice_get held k ≡ slice_get asked k

-- that of the first playbook; where all are the same and the bindings differ, the number of playbooks
abbrev pub DiffersAt : List (List ℕ) → List ℕ → Given → ℕ → Type 0
DiffersAt books bind given index =
    IsFirstOther books given.texts index
    ⊎ ((books ≡ given.texts) × (bind ≢ given.bind) × (index ≡ length books))
