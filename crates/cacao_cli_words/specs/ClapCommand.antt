-- Scaffold: The clap command of a list of options and any number of names.
use Rattle.std.specs.Prelude.{true, List, [], ◌∷◌, ◌++◌, Some, codes, map}
use Rattle.clap.specs.Walk.{Rule}
use Rattle.clap.specs.Simple.{App, Shape, filled, new_rule, new_shape, with_index}
use Rattle.cacao_cli_words.specs.Words.{Text}
use Rattle.clap.specs.declared.builder.action.ArgAction.TheVariants.{Set, Append}

abbrev pub raw_option : Text → Rule
raw_option x = record (new_rule x) { long = Some x; action = Some Set }

abbrev pub names_id : Text
names_id = codes "names"

abbrev pub raw_names : Rule
raw_names = record (new_rule names_id) { action = Some Append }

abbrev pub app : List Text → App
app os = record {
  top = record (new_shape (codes "words")) {
    rules = map raw_option os ++ raw_names ∷ [];
    disable_help_flag = true;
    disable_version_flag = true;
  };
  subs = [];
}

-- the command with some of the options, and no names yet
abbrev pub options_of : List Text → App
options_of os = record {
  top = record (new_shape (codes "words")) {
    rules = map raw_option os;
    disable_help_flag = true;
    disable_version_flag = true;
  };
  subs = [];
}

-- the same, built
abbrev pub option_rule : Text → Rule
option_rule x = filled (raw_option x)

abbrev pub names_rule : Rule
names_rule = with_index 1 (filled raw_names)

abbrev pub rules : List Text → List Rule
rules os = map option_rule os ++ names_rule ∷ []

abbrev pub shape : List Text → Shape
shape os = record (new_shape (codes "words")) {
  rules = rules os;
  disable_help_flag = true;
  disable_version_flag = true;
  disable_help_subcommand = true;
  is_built = true;
}
