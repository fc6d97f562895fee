use Rattle.cacao_vars.specs.Declarations.{IsInNameOrder}
use Rattle.flow_core_tables.proofs.DeclaredLemmas.{declared_more}
use Rattle.flow_core_tables.proofs.present.Present.declared.Goals as goal

pub loop-var-preserved : goal.loop-var-preserved
loop-var-preserved c =
    let order : IsInNameOrder c.as_slice-items.result.now = rw c.as_slice-items.ensures.items c.as_slice-items.ensures.order in
    declared_more c.as_slice-items.result.now c.loop-var.var-index c.var-item.result c.loop-var.map.entries c.add_declared.new.map.entries order c.loop-var-test.true c.var-item.is c.loop-var.invariant c.in_ok-add_declared.ensures
