-- Places of runs.
use Rattle.std.proofs.Common.{ℕ, zero, suc, ◌<◌, ◌≤◌, List, [], ◌∷◌, length, arith}
use Rattle.flow_fleet_laws.specs.Fleets.{AreRuns, IsAt}
use Rattle.flow_fleet_laws.specs.Speeches.{Form}
use Rattle.flow_fleet_laws.specs.Speeches.Form.{without_numbers, with_numbers}

pub below : (runs : List ℕ) (place run : ℕ) → IsAt runs place run → place < length runs
below [] place run at = absurd (cc)
below (x ∷ runs) zero run at = omega arith
below (x ∷ runs) (suc place) run at = omega (arith, below runs place run at)

pub low : (form : Form) (runs : List ℕ) → AreRuns form runs → (place run : ℕ) → IsAt runs place run → place ≤ 15
low without_numbers runs are place run at = omega (arith, below runs place run at, are.few)
low with_numbers runs are place run at = omega (arith, below runs place run at, are.few)
