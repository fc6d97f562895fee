use Rattle.std.proofs.Common.{List, sym, subst, arith}
use Rattle.std.proofs.lemmas.List.{take_all}
use Rattle.cacao_vars.specs.declared.declarations.Var.{Var}
use Rattle.cacao_check_regions.specs.Declarers.{AddsEach}
use Rattle.cacao_check_regions.proofs.DeclarerLemmas.{AddsEach-more}
use Rattle.cacao_check_regions.proofs.declarers.Declarers.add_all.Goals as goal

pub loop-var-preserved : goal.loop-var-preserved
loop-var-preserved c = AddsEach-more c.args.self.now c.loop-var.self c.add.new.self c.args.vars.now c.loop-var.var-index c.var-item.result c.args.place c.loop-var-test.true (sym c.var-item.is) c.loop-var.invariant c.in_ok-add.ensures

pub returns : goal.returns
returns c = subst (λ (v : List Var). AddsEach c.args.self.now c.loop-var.self v c.args.place) (take_all c.loop-var.var-index c.args.vars.now (omega (arith, c.loop-var-test.false))) c.loop-var.invariant
