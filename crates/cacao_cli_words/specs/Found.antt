-- Scaffold: What is taken from a reading: the value of each option that the command knows, and the names.
use Rattle.std.specs.Prelude.{Bool, true, ◌&&◌, List, [], ◌∷◌, Option, Some, None, map, if◌then◌else◌}
use Rattle.std.specs.List.{list_all}
use Rattle.cacao_cli_words.specs.Words.{Text, Reading, fits, value_in}

-- the options' values in their order, and the names
pub record Parts : Type 0 where
  pub values : List (Option Text)
  pub names : List Text

abbrev pub parts_of : List Text → Reading → Parts
parts_of known r = record { values = map (λ x. value_in x r.options) known; names = r.names }

-- the first of the values
abbrev pub first_of : Option (List Text) → Option Text
first_of None = None
first_of (Some []) = None
first_of (Some (value ∷ values)) = Some value

-- a value that is not given fits
abbrev pub maybe_fits : Option Text → Bool
maybe_fits None = true
maybe_fits (Some value) = fits value

-- the parts, if each value and each name fits
abbrev pub if_all_fit : List (Option Text) → List Text → Option Parts
if_all_fit values names =
    if list_all fits names && list_all maybe_fits values then Some (record { values = values; names = names }) else None
