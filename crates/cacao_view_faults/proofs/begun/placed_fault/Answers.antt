use Rattle.std.proofs.Common.{subst}
use Rattle.cacao_view_faults.specs.Kinds.{AreWords, words_of}
use Rattle.cacao_view_faults.proofs.begun.placed_fault.Goals as goal

pub returns-clause-placed : goal.returns-clause-placed
returns-clause-placed c = λ t. record {
  within = c.requires.within;
  begun = c.requires.begun;
  stops = c.requires.stops;
  words = subst (λ k. AreWords (words_of k) c.words-what.result.now) c.kind_at.ensures c.words-what.ensures;
}
