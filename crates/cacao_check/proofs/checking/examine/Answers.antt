use Rattle.std.proofs.Common.{subst}
use Rattle.cacao_check.specs.Walk.{FindsLeast}
use Rattle.cacao_check.proofs.checking.examine.Goals as goal

pub returns-clause-ok : goal.returns-clause-ok
returns-clause-ok c = record {
  some_book = c.requires.some;
  few = c.requires.few;
  sound = subst (FindsLeast c.args.books.now c.args.mode) c.in_default.is c.in_ok-found.ensures;
  surveyed = c.in_ok-surveys.ensures;
  charted = c.in_ok-regions.ensures;
}
