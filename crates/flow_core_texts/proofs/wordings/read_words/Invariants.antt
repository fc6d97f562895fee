use Rattle.flow_core_texts.specs.Wordings.{book_said, book_words}
use Rattle.flow_core_texts.proofs.ContentLemmas.{AreRead}
use Rattle.flow_core_texts.proofs.wordings.read_words.Given as goal

abbrev pub invariant-loop-number : goal.invariant-loop-number
invariant-loop-number l = AreRead book_said book_words l.books l.words.items l.number
