-- The texts are those of the files.
use Rattle.std.proofs.Common.{◌∙◌, sym}
use Rattle.cacao_cli_words.specs.Commands.{run_request}
use Rattle.cacao_cli_starts.proofs.SplitLemmas.{mapped-some, split-start}
use Rattle.cacao_cli_starts.proofs.run_parts.split.Goals as goal

pub returns : goal.returns
returns c =
    split-start (run_request c.args.wanted.now) c.args.texts.items c.last_if-answers.new.texts.items c.last_if-bind.new.texts.items c.last_if-answers.result c.last_if-bind.result c.is_some.result c.is_some-2.result
    c.in_ok-books.books.items c.in_ok-bind.bind c.requires.many
    (c.is_some.ensures ∙ sym (mapped-some _ c.args.wanted.now.answers)) (c.is_some-2.ensures ∙ sym (mapped-some _ c.args.wanted.now.bind))
    c.last_if-answers.ensures.items c.last_if-answers.ensures.none c.last_if-answers.ensures.some
    c.last_if-bind.ensures.items c.last_if-bind.ensures.none c.last_if-bind.ensures.some
    c.in_ok-books.ensures.same c.in_ok-bind.ensures.same
