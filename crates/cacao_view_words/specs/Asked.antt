-- Scaffold: The values of the code as those of the definitions.
use Rattle.std.specs.Prelude.{◌∷◌, ◌++◌, List, Option, map, option_map, string_bytes}
use Rattle.std.specs.Borrow.{Bor}
use Rattle.cacao_view_words.specs.Texts.{Text}
use Rattle.cacao_view_words.specs.Requests as asked
use Rattle.cacao_view_words.specs.Rules.{rule_of}
use Rattle.cacao_view_words.specs.declared.book_words.BookWords.{BookWords}
use Rattle.cacao_view_words.specs.declared.words.Request.{Request}
use Rattle.cacao_view_words.specs.declared.words.Request.TheVariants as how

abbrev pub maybe_text : Option (Bor Text) → Option Text
maybe_text = option_map (λ text. text.now)

-- the names of the playbooks, in the order of the words
abbrev pub book_names : BookWords → List Text
book_names books = map string_bytes books.before.now ++ (map string_bytes books.between.now ++ map string_bytes books.behind.now)

abbrev pub request_by : Request → asked.Request
request_by how.Help = asked.helps
request_by (how.HelpWith topic) = asked.helps_with topic
request_by how.Version = asked.tells_version
request_by (how.Log json engine) = asked.logs json (maybe_text engine)
request_by (how.Graph book libraries) = asked.graphs (book.now ∷ map string_bytes libraries.now)
request_by how.GraphRun = asked.graphs_run
request_by (how.Explain rule) = asked.explains (rule_of rule)
request_by (how.ExplainBooks book libraries) = asked.explains_books (book.now ∷ map string_bytes libraries.now)
request_by (how.Preflight bind books) = asked.preflights (maybe_text bind) (book_names books)
request_by (how.Lacks wanted) = asked.lacks wanted
