-- `--` or an option that has no reading.
use Rattle.std.proofs.Common.{rules, ◌≡◌, ◌∙◌, ◌++◌, List, Some, true, false, map, String, Global, string_bytes}
use Rattle.std.specs.Str.{bytes_eq}
use Rattle.cacao_cli_words.specs.Words.{dashes}
use Rattle.cacao_view_words.specs.Texts.{Text}
use Rattle.cacao_view_words.proofs.OptionLemmas.{option-again, option-dashes}
use Rattle.cacao_view_words.proofs.options.read_dashes.Goals as goal

abbrev texts : List (String Global) → List Text
texts = map string_bytes

pub returns-then-eq : goal.returns-then-eq
returns-then-eq c =
    let is : bytes_eq c.args.word.now dashes ≡ true = search rules in
    c.read_names.ensures ∙ option-dashes (Some c.args.bind.now) (texts c.args.before.now ++ texts c.args.between.now) c.args.word.now (texts c.args.words.now) is

pub returns : goal.returns
returns c =
    let other : bytes_eq c.args.word.now dashes ≡ false = search rules in
    option-again c.args.bind.now (texts c.args.before.now ++ texts c.args.between.now) c.args.word.now (texts c.args.words.now) c.requires other
