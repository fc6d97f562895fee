-- One variable more was looked at.
use Rattle.std.proofs.Common.{◌∙◌, ◌++◌, ◌&&◌, not, ap, refl, List}
use Rattle.cacao_vars.specs.declared.declarations.Var.{Var}
use Rattle.cacao_view_preflight.specs.Warnings.{Text, variable_line, is_unset, lacks_value, of_variables, warn_if}
use Rattle.cacao_view_preflight.proofs.EachLemmas.{added_all, added_next}
use Rattle.cacao_view_preflight.proofs.variables.add_variables.Goals as goal

pub loop-var-init : goal.loop-var-init
loop-var-init c = λ all just. refl

pub loop-var-preserved : goal.loop-var-preserved
loop-var-preserved c = λ all just.
    let make : Var → List Text = λ var. warn_if (lacks_value all var) (variable_line var.name) in
    added_next make c.args.vars.now c.loop-var.var-index c.var-item.result c.loop-var.lines c.add_variable.new.lines (c.args.lines.now ++ of_variables all c.args.vars.now) c.loop-var-test.true c.var-item.is
    (c.in_ok-add_variable.ensures ∙ ap (λ b. c.loop-var.lines ++ warn_if (is_unset c.var-item.result && not b) (variable_line c.var-item.result.name)) (just c.var-item.result.name)) (c.loop-var.invariant all just)

pub returns : goal.returns
returns c = λ all just.
    let make : Var → List Text = λ var. warn_if (lacks_value all var) (variable_line var.name) in
    added_all make c.args.vars.now c.loop-var.var-index c.loop-var.lines (c.args.lines.now ++ of_variables all c.args.vars.now) c.loop-var-test.false (c.loop-var.invariant all just)
