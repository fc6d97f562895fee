-- Promise: Names, and whether one is among others.
use Rattle.std.specs.Prelude.{ℕ, Bool, List}
use Rattle.std.specs.List.{list_any}
use Rattle.std.specs.Str.{bytes_eq}

abbrev pub Text : Type 0
Text = List ℕ

abbrev pub is_named : List Text → Text → Bool
is_named names name = list_any (λ other. bytes_eq other name) names
