-- Promise: What is done for each request: one case a word.
use Rattle.std.specs.Prelude.{List, [], ◌∷◌, Option, Some, None}
use Rattle.cacao_cli_ends.specs.Files.{File, journal_file}
use Rattle.cacao_view_log.specs.declared.form.Form.{Form}
use Rattle.cacao_view_words.specs.Requests.{Request, helps, helps_with, tells_version, logs, graphs, graphs_run, explains, explains_books, preflights, lacks}
use Rattle.cacao_view_words.specs.Rules.{rule_lines}
use Rattle.cacao_view_words.specs.Texts.{Text}
use Rattle.cacao_view_words.specs.Topics.{all_words, topic_lines, version_lines}
use Rattle.cacao_view.specs.BookReading.{book_files}
use Rattle.cacao_view.specs.Ends.{End, done, not_understood}
use Rattle.cacao_view.specs.Flying.{bound_names}
use Rattle.cacao_view.specs.Logging.{form_of}

-- the files of the shelf that are read, in order
abbrev pub files_of : Request → List File
files_of helps = []
files_of (helps_with topic) = []
files_of tells_version = []
files_of (logs as_json None) = []
files_of (logs as_json (Some name)) = journal_file name ∷ []
files_of (graphs books) = book_files books books
files_of graphs_run = []
files_of (explains rule) = []
files_of (explains_books books) = book_files books books
files_of (preflights bind books) = book_files books (bound_names bind books)
files_of (lacks wanted) = []

-- What is done: to say these lines and end so; to say the records of the disk's file, or of the file of this name; to say the picture of the
-- playbooks in the files of these names, or that of the run in the disk's file; to tell of their first break, or of a run of them with these
-- bindings.
pub data Work : Type 0 where
  says : (lines : List Text) (end : End) → Work
  logs_disk : (form : Form) → Work
  logs_file : (form : Form) (name : Text) → Work
  draws : (books : List Text) → Work
  draws_run : Work
  tells_break : (books : List Text) → Work
  tells_flight : (bind : Option Text) (books : List Text) → Work

abbrev pub work : Request → Work
work helps = says all_words done
work (helps_with topic) = says (topic_lines topic) done
work tells_version = says version_lines done
work (logs as_json None) = logs_disk (form_of as_json)
work (logs as_json (Some name)) = logs_file (form_of as_json) name
work (graphs books) = draws books
work graphs_run = draws_run
work (explains rule) = says (rule_lines rule) done
work (explains_books books) = tells_break books
work (preflights bind books) = tells_flight bind books
work (lacks wanted) = says [] (not_understood wanted)
