use Rattle.std.proofs.Common.{sym, ◌∙◌}
use Rattle.std.proofs.lemmas.Bool.{false≢true}
use Rattle.cacao_check.proofs.RuleLemmas.{AsksAlike, all_more, all_done, fails_at}
use Rattle.cacao_check.proofs.sight_rules.are_alike.Goals as goal

pub returns-then-not-alike-clause-keeps : goal.returns-then-not-alike-clause-keeps
returns-then-not-alike-clause-keeps c =
    fails_at (AsksAlike c.args.book.now c.args.place c.args.theirs.now c.args.as_external) c.args.names.now c.loop-name.name-index c.name-item.result c.loop-name-test.true c.name-item.is (λ asks. false≢true (sym c.if-not-alike.true ∙ c.in_ok-alike.ensures.keeps.1 asks))

pub loop-name-preserved : goal.loop-name-preserved
loop-name-preserved c = (
  all_more (AsksAlike c.args.book.now c.args.place c.args.theirs.now c.args.as_external) c.args.names.now c.loop-name.name-index c.name-item.result c.loop-name-test.true c.name-item.is (c.in_ok-alike.ensures.keeps.0 c.if-not-alike.false) c.loop-name.invariant.0,
  c.in_ok-alike.ensures.memory,
)

pub returns-clause-keeps : goal.returns-clause-keeps
returns-clause-keeps c = all_done (AsksAlike c.args.book.now c.args.place c.args.theirs.now c.args.as_external) c.args.names.now c.loop-name.name-index c.loop-name-test.false c.loop-name.invariant.0
