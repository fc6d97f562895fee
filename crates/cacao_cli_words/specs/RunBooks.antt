-- Scaffold: A run of a fleet, as the words name it.
use Rattle.std.specs.Prelude.{ℕ}
use Rattle.cacao_cli_words.specs.Words.{Text}
use Rattle.cacao_cli_words.specs.declared.run_book.RunBook.{RunBook}

-- the number of a run, and the name of its playbook
abbrev pub run_of : RunBook → ℕ × Text
run_of one = (one.run, one.book.now)
