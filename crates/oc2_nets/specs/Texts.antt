-- Promise: Texts in parts.
use Rattle.std.specs.Prelude.{ℕ, List, Option, option_and_then, ◌==◌}
use Rattle.std.specs.List.{slice_split}

infixl 10 ◌>>=◌
abbrev pub ◌>>=◌ : {A B : Type 0} → Option A → (A → Option B) → Option B
o >>= f = option_and_then f o

-- the bytes that stand between the parts of a text
abbrev pub slash : ℕ
slash = 47

abbrev pub dot : ℕ
dot = 46

abbrev pub colon : ℕ
colon = 58

abbrev pub space : ℕ
space = 32

-- the parts of a text between its separators, one more than there are separators
abbrev pub parts : ℕ → List ℕ → List (List ℕ)
parts separator text = slice_split (λ c. c == separator) text
