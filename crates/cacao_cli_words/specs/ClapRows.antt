-- Scaffold: What the rows of the matches say of a reading.
use Rattle.std.specs.Prelude.{◌≡◌, true, false, List, [], ◌∷◌, Option, Some, None, option_map}
use Rattle.clap.specs.Walk.{Row, all_of}
use Rattle.cacao_cli_words.specs.Words.{Reading, Text, is_known, nothing_read, before_dashes, read_from, value_in}
use Rattle.cacao_cli_words.specs.ClapCommand.{names_id}

-- the values of the row
abbrev pub found : Text → List Row → Option (List Text)
found x rows = all_of x rows

abbrev pub some_list : List Text → Option (List Text)
some_list [] = None
some_list (w ∷ ws) = Some (w ∷ ws)

abbrev pub one_value : Option Text → Option (List Text)
one_value = option_map (λ v. v ∷ [])

-- the rows have what was read
pub record Shows (os : List Text) (rows : List Row) (r : Reading) : Type 0 where
  pub options : (x : Text) → is_known os x ≡ true → found x rows ≡ one_value (value_in x r.options)
  pub names : found names_id rows ≡ some_list r.names

-- the names are no option
abbrev pub IsApart : List Text → Type 0
IsApart os = is_known os names_id ≡ false

-- the words after the first read as r, and the rows have that
abbrev pub IsReadAs : List Text → List Text → List Row → Type 0
IsReadAs os words rows = (r : Reading) × (read_from os nothing_read before_dashes words ≡ Some r) × Shows os rows r
