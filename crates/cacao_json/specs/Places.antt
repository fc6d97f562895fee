-- Promise: Where a name stands among members, for private clauses.
use Rattle.std.specs.Prelude.{◌≡◌, ◌+◌, ◌<◌, ◌≤◌, ℕ, List, length, get_or, Result, Ok, Err}
use Rattle.std.specs.declared.cmp.Ordering.TheVariants.{Less, Greater}
use Rattle.std.specs.Ordering.{nat_cmp}
use Rattle.std.specs.Cmp.Lexicographic.{slice_cmp}
use Rattle.cacao_json.specs.declared.tree.Pair.{Pair}

-- the names below i are less
abbrev pub AreBefore : List ℕ → List Pair → ℕ → Type 0
AreBefore k ps i = (j : ℕ) (p : Pair) → j < i → slice_cmp nat_cmp k (get_or ps j p).name ≡ Greater

-- the names from i on are greater
abbrev pub AreBehind : List ℕ → List Pair → ℕ → Type 0
AreBehind k ps i = (j : ℕ) (p : Pair) → i ≤ j → j < length ps → slice_cmp nat_cmp k (get_or ps j p).name ≡ Less

abbrev pub IsPlace : List ℕ → List Pair → Result ℕ ℕ → Type 0
IsPlace k ps (Ok i) = (i < length ps) × AreBefore k ps i × ((p : Pair) → (get_or ps i p).name ≡ k) × AreBehind k ps (i + 1)
IsPlace k ps (Err i) = (i ≤ length ps) × AreBefore k ps i × AreBehind k ps i
