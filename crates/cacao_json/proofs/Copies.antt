-- A list that is copied one by one.
use Rattle.std.proofs.Common.{◌≡◌, ℕ, ◌+◌, List, ◌++◌, drop, map}

module _ {X Y : Type 0} (f : X → Y) (xs : List X) where
  -- the copies, and then what is left
  abbrev pub IsCopied : List X → ℕ → Type 0
  IsCopied copies i = map f copies ++ map f (drop i xs) ≡ map f xs
