use Rattle.std.proofs.Common.{refl}
use Rattle.cacao_check.proofs.RuleLemmas.{alike_yes}
use Rattle.cacao_check.proofs.sight_rules.is_alike.Goals as goal

pub returns-clause-keeps : goal.returns-clause-keeps
returns-clause-keeps c =
    alike_yes c.args.book.now c.args.place c.args.theirs.now c.args.name.now c.args.as_external c.in-Some.var.now c.in-Some.ensures c.may_be_handed.result c.in_ok-differs.differs _ c.in_ok-kind.kind c.may_be_handed.ensures c.if-not-may_be_handed.false refl c.in_ok-kind.ensures c.in_ok-differs.ensures.sees
