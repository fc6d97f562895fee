use Rattle.std.proofs.Common.{◌≡◌, length}
use Rattle.cacao_check_steps.specs.Parts.{ReadsStep}
use Rattle.cacao_check_steps.specs.Pairing.{EachPair}
use Rattle.cacao_check_steps.proofs.reading.read_steps.Given as goal

abbrev pub invariant-loop-step : goal.invariant-loop-step
invariant-loop-step l = (length l.all.items ≡ l.step-index) × EachPair (ReadsStep l.books l.book) l.book.steps l.all.items
