-- Where no word begins with a hyphen, all stand before the first that does.
use Rattle.std.proofs.Common.{Bool, not, nat_lt, refl, length, String, Global, string_bytes}
use Rattle.std.proofs.lemmas.List.Sums.{prefix_len-le-length}
use Rattle.std.specs.List.{position_or_len}
use Rattle.cacao_cli_words.specs.Words.{begins_hyphen}
use Rattle.cacao_view_words.proofs.OptionLemmas.{count-none}
use Rattle.cacao_view_words.proofs.options.count_names.Goals as goal

pub returns-in-None-clause-value : goal.returns-in-None-clause-value
returns-in-None-clause-value c =
    let p : String Global → Bool = λ word. begins_hyphen (string_bytes word) in
    count-none (position_or_len p c.args.words.now) (length c.args.words.now) (prefix_len-le-length (λ word. not (p word)) c.args.words.now)
    (nat_lt (position_or_len p c.args.words.now) (length c.args.words.now)) refl c.in-None.ensures.value
