-- Promise: The least break: of all rules at all places, the first that is broken.
use Rattle.std.specs.Prelude.{◌≡◌, ◌⊎◌, ℕ, ◌<◌, List, ◌∷◌, Option, Some, None}

-- one list of numbers comes before another of the same length: the first number that differs decides
abbrev pub Before : List ℕ → List ℕ → Type 0
Before (x ∷ xs) (y ∷ ys) = (x < y) ⊎ ((x ≡ y) × Before xs ys)
Before _ _ = ⊥

-- Of the demands, each with its rank, this is the first that is not kept.
pub record IsLeastBreak {Demand : Type 0} (rank : Demand → List ℕ) (Keeps : Demand → Type 0) (broken : Demand) : Type 0 where
  pub is_broken : ¬ Keeps broken
  pub earlier : (demand : Demand) → Before (rank demand) (rank broken) → Keeps demand

-- Of the rules of one place, none is broken, or that with this number is the first.
abbrev pub FirstRule : {Rule : Type 0} → (Rule → ℕ) → (Rule → Type 0) → Option ℕ → Type 0
FirstRule {Rule} number Keeps None = (rule : Rule) → Keeps rule
FirstRule {Rule} number Keeps (Some n) =
    (rule : Rule) × (number rule ≡ n) × (¬ Keeps rule) × ((other : Rule) → number other < n → Keeps other)
