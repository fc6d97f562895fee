-- Scaffold: What stands behind the first letter of a URI, read from the left.
use Rattle.std.specs.Prelude.{ℕ, ◌&&◌, ◌==◌, Bool, false, not, List, [], ◌∷◌, length, if◌then◌else◌}
use Rattle.std.specs.List.{list_all}
use Rattle.cacao_check.specs.Fits.{is_scheme_character, is_visible}

-- one or more visible characters
abbrev pub is_rest : List ℕ → Bool
is_rest text = not (length text == 0) && list_all is_visible text

-- characters of a scheme, a colon, and one or more visible characters
abbrev pub has_rest : List ℕ → Bool
has_rest [] = false
has_rest (c ∷ cs) = if c == 58 then is_rest cs else is_scheme_character c && has_rest cs
