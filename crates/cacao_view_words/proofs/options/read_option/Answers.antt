-- `--`, an option, or a word without reading.
use Rattle.std.proofs.Common.{rules, ◌≡◌, ◌∙◌, List, None, true, false, sym, ap, map, append-nil, String, Global, string_bytes}
use Rattle.std.specs.Str.{bytes_eq}
use Rattle.cacao_cli_words.specs.Words.{behind_dashes, dashes}
use Rattle.cacao_view_words.specs.Asked.{maybe_text}
use Rattle.cacao_view_words.specs.Options.{asks_from, reading}
use Rattle.cacao_view_words.specs.Texts.{Text}
use Rattle.cacao_view_words.proofs.OptionLemmas.{option-dashes, option-known, option-no}
use Rattle.cacao_view_words.proofs.options.read_option.Goals as goal

abbrev texts : List (String Global) → List Text
texts = map string_bytes

pub returns-then-eq : goal.returns-then-eq
returns-then-eq c =
    let is : bytes_eq c.args.word.now dashes ≡ true = search rules in
    c.read_names.ensures ∙ ap (λ (l : List Text). asks_from (reading None l) behind_dashes (texts c.args.words.now)) (append-nil (texts c.args.before.now))
    ∙ option-dashes None (texts c.args.before.now) c.args.word.now (texts c.args.words.now) is

pub returns-in-Some : goal.returns-in-Some
returns-in-Some c =
    let other : bytes_eq c.args.word.now dashes ≡ false = search rules in
    c.option_asks.ensures ∙ option-known (texts c.args.before.now) c.args.word.now (texts c.args.words.now) (c.in-Some.name.now, maybe_text c.in-Some.value) other (sym c.in-Some.ensures)

pub returns-in-None : goal.returns-in-None
returns-in-None c =
    let other : bytes_eq c.args.word.now dashes ≡ false = search rules in
    option-no (texts c.args.before.now) c.args.word.now (texts c.args.words.now) c.requires other (sym c.in-None.ensures)
