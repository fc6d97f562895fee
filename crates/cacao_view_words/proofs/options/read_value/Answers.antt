-- No value stands there.
use Rattle.std.proofs.Common.{List, arith, map, String, Global, string_bytes}
use Rattle.std.proofs.lemmas.List.{length-map}
use Rattle.cacao_view_words.specs.Texts.{Text}
use Rattle.cacao_view_words.proofs.OptionLemmas.{value-end}
use Rattle.cacao_view_words.proofs.options.read_value.Goals as goal

abbrev texts : List (String Global) → List Text
texts = map string_bytes

pub returns-in-empty : goal.returns-in-empty
returns-in-empty c = value-end (texts c.args.before.now) (texts c.args.words.now) (omega (arith, c.in-empty.len_below, length-map c.args.words.now string_bytes))
