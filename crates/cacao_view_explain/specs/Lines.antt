-- Promise: The lines that tell what is at fault in a text.
use Rattle.std.specs.Prelude.{◌≡◌, ◌⊎◌, true, ℕ, List, [], ◌∷◌, ◌++◌, codes, decimal, Option, Some, None, option_and_then}
use Rattle.serde_json.specs.Data.{Data, string}
use Rattle.serde_json.specs.Find.{as_str, get}
use Rattle.cacao_text.specs.Canon.{canon}
use Rattle.cacao_vars.specs.Names.{IsName}
use Rattle.cacao_cli_ends.specs.Files.{NamedText}
use Rattle.cacao_view_words.specs.Texts.{Text}
use Rattle.cacao_view_faults.specs.Places.{Place, place_behind}
use Rattle.cacao_view_faults.specs.Stands.{WordStands, byte_at, stands}
use Rattle.cacao_view_explain.specs.Plain.{shown}

-- ---- a step

-- the name of the step with this key, if it has one
abbrev pub step_name : Text → Data → Option Text
step_name key root =
    option_and_then as_str (option_and_then (get (codes "name")) (option_and_then (get key) (get (codes "workflow") root)))

abbrev pub name_part : Option Text → Text
name_part None = []
name_part (Some name) = 32 ∷ canon (string name)

abbrev pub step_line : Text → Option Text → Text
step_line key name = (codes "step " ++ shown key ++ name_part name) ++ codes "\n"

abbrev pub step_lines : Option Text → Data → List Text
step_lines None root = []
step_lines (Some key) root = step_line key (step_name key root) ∷ []

-- ---- a path

-- the pointer to the step of a playbook, or to the playbook
abbrev pub step_pointer : Option Text → Text
step_pointer None = []
step_pointer (Some key) = codes "/workflow/" ++ key

abbrev pub pointer_line : Text → Text
pointer_line pointer = (codes "at " ++ canon (string pointer)) ++ codes "\n"

-- ---- a place

-- how a line on a file begins
abbrev pub file_front : Text → Text
file_front name = codes "file " ++ name

abbrev pub place_words : Place → Text
place_words place = codes " line " ++ (decimal place.line ++ (codes " column " ++ (decimal place.column ++ codes ": ")))

abbrev pub place_line : Text → Place → Text → Text
place_line name place what = file_front name ++ ((place_words place ++ shown what) ++ codes "\n")

-- something is told of a text, and no place in it
abbrev pub text_line : Text → Text → Text
text_line name what = file_front name ++ ((codes ": " ++ shown what) ++ codes "\n")

-- something is told of a place of a text, counted in bytes, by its line and column
abbrev pub told_line : NamedText → ℕ → Text → Text
told_line text at what = place_line text.name (place_behind text.bytes at) what

-- what is said of a name
abbrev pub named_words : Text → Text → Text
named_words name says = name ++ (codes " " ++ says)

-- a variable's name, or a text in quotation marks
abbrev pub IsTold : Text → Type 0
IsTold name = IsName name ⊎ (byte_at name 0 ≡ 34)

-- the words begin with this name, and go on with what is said of it
pub record BeginsWithName (what name : Text) : Type 0 where
  pub told : IsTold name
  pub says : Text
  pub is : what ≡ named_words name says

-- the words begin with a name, and that name stands at this place of a value of the text
pub record NameIsTold (text : Text) (from end at : ℕ) (what : Text) : Type 0 where
  pub name : Text
  pub begins : BeginsWithName what name
  pub there : WordStands text from end at name

-- The value that the pointer leads to stands from a place on and before another, and the line tells these words where it begins, or where in it
-- the name stands that the words begin with.
pub record TellsValue (text : NamedText) (path what line : Text) : Type 0 where
  pub from : ℕ
  pub end : ℕ
  pub it_stands : stands text.bytes path from end ≡ true
  pub at : ℕ
  pub there : (at ≡ from) ⊎ NameIsTold text.bytes from end at what
  pub is : line ≡ told_line text at what

-- the words are told there, or with no place
abbrev pub TellsPart : NamedText → Text → Text → Text → Type 0
TellsPart text path what line = TellsValue text path what line ⊎ (line ≡ text_line text.name what)
