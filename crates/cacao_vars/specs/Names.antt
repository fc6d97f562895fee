-- Promise: The grammar of a variable's name.
use Rattle.std.specs.Prelude.{◌≡◌, ℕ, ◌≤◌, ◌==◌, ◌&&◌, ◌||◌, nat_le, Bool, IsTrue, List, [], ◌∷◌, ◌++◌, length}
use Rattle.std.specs.List.{list_all}

-- a letter, a decimal digit, `_` or `-`
abbrev pub is_name_character : ℕ → Bool
is_name_character c =
    (nat_le 97 c && nat_le c 122) || (nat_le 65 c && nat_le c 90) || (nat_le 48 c && nat_le c 57) || (c == 95) || (c == 45)

-- `__`
abbrev pub underscores : List ℕ
underscores = 95 ∷ 95 ∷ []

-- `__`, one to sixty such characters, and `__`
pub record IsName (text : List ℕ) : Type 0 where
  pub middle : List ℕ
  pub at_least : 1 ≤ length middle
  pub at_most : length middle ≤ 60
  pub characters : IsTrue (list_all is_name_character middle)
  pub spelled : text ≡ underscores ++ middle ++ underscores
