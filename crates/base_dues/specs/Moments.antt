-- Scaffold: Moments as they are kept: whether a number has one, and which.
use Rattle.std.specs.Prelude.{ℕ, Bool, List, [], ◌∷◌, Option, Some, None, if◌then◌else◌}

abbrev pub moments_of : List Bool → List ℕ → List (Option ℕ)
moments_of [] times = []
moments_of (is ∷ there) [] = []
moments_of (is ∷ there) (time ∷ times) = (if is then Some time else None) ∷ moments_of there times
