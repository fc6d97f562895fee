-- The same of their bytes.
use Rattle.std.proofs.Common.{◌∙◌, sym, Global, string_bytes}
use Rattle.std.proofs.lemmas.List.Folds.{list_all-map}
use Rattle.cacao_view_words.specs.Requests.{is_book}
use Rattle.cacao_view_words.proofs.books.are_books.Goals as goal

pub returns : goal.returns
returns c = c.each_is_book.ensures ∙ sym (list_all-map is_book (string_bytes {Z = Global}) c.args.names.now)
