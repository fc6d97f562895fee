-- Promise: Two lists of things that go together.
use Rattle.std.specs.Prelude.{◌≡◌, ℕ, List, Some, slice_get}

-- what stands at the same place of both is related
abbrev pub EachPair : {X Y : Type 0} → (X → Y → Type 0) → List X → List Y → Type 0
EachPair {X} {Y} R xs ys = (k : ℕ) (x : X) (y : Y) → slice_get xs k ≡ Some x → slice_get ys k ≡ Some y → R x y
