-- A text without `=` is a name alone.
use Rattle.std.proofs.Common.{arith}
use Rattle.cacao_view_words.proofs.OptionLemmas.{named-alone}
use Rattle.cacao_view_words.proofs.options.name_and_value.Goals as goal

pub returns-in-None : goal.returns-in-None
returns-in-None c = named-alone c.args.text.now (c.in-None.ensures.byte (omega arith) (λ w o h. h))
