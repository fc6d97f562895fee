-- Promise: Texts as lists of bytes.
use Rattle.std.specs.Prelude.{ℕ, ◌==◌, Bool, false, not, ◌&&◌, IsTrue, List, [], ◌∷◌, map}
use Rattle.std.specs.List.{list_all}
use Rattle.std.specs.Borrow.{Bor}

abbrev pub Text : Type 0
Text = List ℕ

-- the lines of a list of the code
abbrev pub lines_in : List (Bor Text) → List Text
lines_in = map (λ line. line.now)

-- a line: it ends with its one line feed
abbrev pub is_line : Text → Bool
is_line [] = false
is_line (c ∷ []) = c == 10
is_line (c ∷ d ∷ cs) = not (c == 10) && is_line (d ∷ cs)

abbrev pub AreLines : List Text → Type 0
AreLines lines = IsTrue (list_all is_line lines)
