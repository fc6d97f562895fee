-- Scaffold: The words that are refused for their hyphens, before clap reads them.
use Rattle.std.specs.Prelude.{◌==◌, ◌&&◌, ◌||◌, Bool, true, false, not, List, [], ◌∷◌}
use Rattle.std.specs.Str.{bytes_eq}
use Rattle.cacao_cli_words.specs.Words.{Text, begins_hyphen, dashes}

-- the word begins with `--`
abbrev pub begins_two : Text → Bool
begins_two [] = false
begins_two (c ∷ cs) = (c == 45) && begins_hyphen cs

-- behind the first `--` no word begins with a hyphen, before it each that does begins with two
abbrev pub word_passes : Bool → Text → Bool
word_passes ended word = not (begins_hyphen word) || (not ended && begins_two word)

unfoldable pub passes : Bool → List Text → Bool
passes ended [] = true
passes ended (word ∷ words) = word_passes ended word && passes (ended || bytes_eq word dashes) words
