-- Scaffold: Members in the order of their names.
use Rattle.std.specs.Prelude.{ℕ, List, [], ◌∷◌, ⊤}
use Rattle.std.specs.List.{AllByRecursion}
use Rattle.serde_json.specs.Data.{Data}
use Rattle.cacao_vars.specs.Declarations.{IsBefore}

-- each name comes before all later ones, byte by byte
abbrev pub IsRising : List (List ℕ × Data) → Type 0
IsRising [] = ⊤
IsRising (m ∷ ms) = AllByRecursion (λ later. IsBefore m.0 later.0) ms × IsRising ms
