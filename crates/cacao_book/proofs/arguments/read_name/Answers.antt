use Rattle.std.proofs.Common.{sym, subst, ap, ◌∙◌}
use Rattle.serde_json.specs.Find.{as_str}
use Rattle.cacao_json.specs.Tree.{data_of}
use Rattle.cacao_vars.specs.Names.{IsName}
use Rattle.cacao_book_shape.specs.Shape.{IsArgument}
use Rattle.cacao_book_shape.specs.Members.{text_of}
use Rattle.cacao_book.specs.Books.{argument}
use Rattle.cacao_book.proofs.ArgumentLemmas.{IsName-argument, text_fits}
use Rattle.cacao_book.proofs.arguments.read_name.Goals as goal

pub new-requires : goal.new-requires
new-requires c =
    subst IsName (sym (c.argument_name.ensures ∙ ap argument c.text_or_empty.ensures))
    (IsName-argument (text_of (data_of c.args.item.now)) (text_fits IsArgument (as_str (data_of c.args.item.now)) c.requires))
