-- Scaffold: What commands say, read once.
use Rattle.std.specs.Prelude.{◌≡◌, ℕ, List, map, Option, option_map}
use Rattle.serde_json.specs.Data.{Data}
use Rattle.cacao_book.specs.declared.books.Book.{Book}
use Rattle.cacao_book.specs.declared.steps.Step.{Step}
use Rattle.cacao_check_steps.specs.Uses.{commands_of, content_tree}
use Rattle.flow_core_texts.specs.declared.wordings.StepWords.{StepWords}
use Rattle.flow_core_texts.specs.declared.wordings.BookWords.{BookWords}
use Rattle.flow_core_texts.specs.Contents.{content_data}
use Rattle.flow_core_texts.specs.Questions.{question_of}

-- what the commands of a step say: the trees for filters, and the texts for operators
abbrev pub Said : Type 0
Said = List (Option Data) × List (Option (List ℕ))

abbrev pub step_said : Step → Said
step_said step = (map content_tree (commands_of step.kind), map question_of (commands_of step.kind))

-- the same as it was read
abbrev pub step_words : StepWords → Said
step_words w = (map (option_map content_data) w.contents.items, w.questions.items)

abbrev pub book_said : Book → List Said
book_said book = map step_said book.steps

abbrev pub book_words : BookWords → List Said
book_words w = map step_words w.steps.items

-- this was read of the commands of these playbooks
abbrev pub AreWordsOf : List Book → List BookWords → Type 0
AreWordsOf books all = map book_words all ≡ map book_said books
