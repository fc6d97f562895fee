-- A value that is a word of its own begins with no hyphen.
use Rattle.std.proofs.Common.{rules, ◌≡◌, ◌∙◌, List, true, false, map, String, Global, string_bytes}
use Rattle.cacao_cli_words.specs.Words.{begins_hyphen}
use Rattle.cacao_view_words.specs.Texts.{Text}
use Rattle.cacao_view_words.proofs.OptionLemmas.{value-none, value-some}
use Rattle.cacao_view_words.proofs.options.value_asks.Goals as goal

abbrev texts : List (String Global) → List Text
texts = map string_bytes

pub returns-then-begins_hyphen : goal.returns-then-begins_hyphen
returns-then-begins_hyphen c =
    let is : begins_hyphen c.args.value.now ≡ true = search rules in
    value-none (texts c.args.before.now) c.args.value.now (texts c.args.words.now) is

pub returns : goal.returns
returns c =
    let other : begins_hyphen c.args.value.now ≡ false = search rules in
    c.read_bound.ensures ∙ value-some (texts c.args.before.now) c.args.value.now (texts c.args.words.now) other
