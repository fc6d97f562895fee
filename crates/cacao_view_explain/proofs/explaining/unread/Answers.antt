-- What is told of texts that did not all give a tree.
use Rattle.std.proofs.Common.{rules, ◌≡◌, map, Err}
use Rattle.cacao_cli_ends.specs.Told.{end_of}
use Rattle.cacao_cli_ends.specs.Work.{trees_of}
use Rattle.cacao_cli_looks.specs.Command.{text_of}
use Rattle.cacao_view_explain.proofs.EndLemmas.{unread_tells}
use Rattle.cacao_view_explain.proofs.explaining.unread.Goals as goal

pub returns-in-Ok-clause-told : goal.returns-in-Ok-clause-told
returns-in-Ok-clause-told c =
    let read : trees_of (map text_of c.args.texts.now) ≡ Err (end_of c.args.end) = search rules in
    unread_tells (map text_of c.args.texts.now) c.in-Ok.lines (end_of c.args.end) read c.in-Ok.ensures
