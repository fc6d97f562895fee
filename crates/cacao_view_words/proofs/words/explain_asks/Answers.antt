-- Two names or more are those of files.
use Rattle.std.proofs.Common.{◌∙◌, ◌∷◌, ◌-◌, arith, ap, length, map, take, drop, string_bytes}
use Rattle.cacao_view_words.specs.Requests.{explain_books_asks}
use Rattle.cacao_view_words.specs.Texts.{Text}
use Rattle.cacao_view_words.proofs.OptionLemmas.{explain-many}
use Rattle.cacao_view_words.proofs.words.explain_asks.Goals as goal

pub returns-in-len1-up : goal.returns-in-len1-up
returns-in-len1-up c =
    c.explain_books_asks.ensures
    ∙ ap (λ (t : Text). explain_books_asks (t ∷ map string_bytes (take (length c.args.names.now - 1) (drop 1 c.args.names.now)))) (c.as_str-in-len1-up.ensures.value ∙ ap string_bytes c.book-item.is)
    ∙ explain-many c.args.names.now c.book-item.result (omega (arith, c.in-len1-up.len_at_least))
