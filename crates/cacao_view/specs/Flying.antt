-- Promise: What is told of a run of playbooks before its first record.
use Rattle.std.specs.Prelude.{List, ◌++◌, Option, is_some}
use Rattle.cacao_cli_ends.specs.Ends.{End}
use Rattle.cacao_cli_ends.specs.Files.{NamedText, ShelfCall, listed}
use Rattle.cacao_cli_ends.specs.Work.{trees_of}
use Rattle.cacao_view_preflight.specs.Preflights.{Preflights, Reads}
use Rattle.cacao_view_words.specs.Texts.{Text}
use Rattle.cacao_view.specs.BookReading.{ReadsBooks}

-- the playbooks, and behind them bindings, if they are named
abbrev pub bound_names : Option Text → List Text → List Text
bound_names bind books = books ++ listed bind

-- what the texts come to where no memory is wanted
abbrev pub Foresees : Option Text → List NamedText → List Text → End → Type 0
Foresees bind texts lines end = Reads (is_some bind) texts (trees_of texts) lines end

-- the files of these names were read, and this is what is told
abbrev pub FliesBooks : Option Text → List Text → ShelfCall → List Text → End → Type 0
FliesBooks bind books = ReadsBooks (Preflights (is_some bind)) books (bound_names bind books)
