-- Scaffold: Words behind `preflight` that are read in part.
use Rattle.std.specs.Prelude.{Option, Some, None, List, [], ◌∷◌, codes, option_map, option_and_then, if◌then◌else◌}
use Rattle.std.specs.Borrow.{Bor}
use Rattle.cacao_cli_words.specs.Words.{Place, Reading, State, after_option, if_fits, is_known, read_from}
use Rattle.cacao_view_words.specs.Texts.{Text}
use Rattle.cacao_view_words.specs.Requests.{Request, lacks, preflight_of}
use Rattle.cacao_view_words.specs.declared.wanted.Wanted.TheVariants as want

-- the value of `--bind`, if it is given, and names
abbrev pub reading : Option Text → List Text → Reading
reading None names = record { options = []; names = names }
reading (Some value) names = record { options = (codes "bind", value) ∷ []; names = names }

-- what is asked for where this was read, and a place before these words is come to
abbrev pub asks_from : Reading → Place → List Text → Request
asks_from r place words = preflight_of (option_and_then if_fits (read_from (codes "bind" ∷ []) r place words))

abbrev pub asks_at : State → List Text → Request
asks_at s words = asks_from s.reading s.place words

-- an option of the code as its name and its value
abbrev pub option_of : Bor Text × Option (Bor Text) → Text × Option Text
option_of o = (o.0.now, option_map (λ value. value.now) o.1)

-- what an option behind these names asks for, and the words behind it
abbrev pub option_asks : List Text → Text × Option Text → List Text → Request
option_asks names o words =
    if is_known (codes "bind" ∷ []) o.0 then asks_at (after_option (reading None names) o.0 o.1) words else lacks want.Playbook
