use Rattle.flow_core_texts.specs.Wordings.{step_said, step_words}
use Rattle.flow_core_texts.proofs.ContentLemmas.{AreRead}
use Rattle.flow_core_texts.proofs.wordings.read_book.Given as goal

abbrev pub invariant-loop-place : goal.invariant-loop-place
invariant-loop-place l = AreRead step_said step_words l.steps l.words.items l.place
