use Rattle.cacao_check.specs.Rules.{VarFits}
use Rattle.cacao_check.proofs.RuleLemmas.{all_more, all_done}
use Rattle.cacao_check.proofs.book_rules.keeps_k20.Goals as goal

pub loop-var-preserved : goal.loop-var-preserved
loop-var-preserved c = all_more VarFits c.as_slice-var-items.result.now c.loop-var.var-index c.var-item.result c.loop-var-test.true c.var-item.is (c.var_fits.ensures.0 c.if-not-var_fits.false) c.loop-var.invariant

pub returns : goal.returns
returns c = rw (← c.as_slice-var-items.ensures.items) (all_done VarFits c.as_slice-var-items.result.now c.loop-var.var-index c.loop-var-test.false c.loop-var.invariant)
