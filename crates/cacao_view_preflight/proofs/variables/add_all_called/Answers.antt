-- One variable more was looked at.
use Rattle.std.proofs.Common.{◌∙◌, ◌++◌, ◌&&◌, not, ap, refl, List}
use Rattle.cacao_vars.specs.declared.declarations.Var.{Var}
use Rattle.cacao_view_preflight.specs.Warnings.{Text, called_line, is_unset, lacks_value, of_called, warn_if}
use Rattle.cacao_view_preflight.proofs.EachLemmas.{added_all, added_next}
use Rattle.cacao_view_preflight.proofs.variables.add_all_called.Goals as goal

pub loop-var-init : goal.loop-var-init
loop-var-init c = λ all just. refl

pub loop-var-preserved : goal.loop-var-preserved
loop-var-preserved c = λ all just.
    let make : Var → List Text = λ var. warn_if (lacks_value all var) (called_line c.args.n var.name) in
    added_next make c.args.vars.now c.loop-var.var-index c.var-item.result c.loop-var.lines c.add_called.new.lines (c.args.lines.now ++ of_called all c.args.n c.args.vars.now) c.loop-var-test.true c.var-item.is
    (c.in_ok-add_called.ensures ∙ ap (λ b. c.loop-var.lines ++ warn_if (is_unset c.var-item.result && not b) (called_line c.args.n c.var-item.result.name)) (just c.var-item.result.name)) (c.loop-var.invariant all just)

pub returns : goal.returns
returns c = λ all just.
    let make : Var → List Text = λ var. warn_if (lacks_value all var) (called_line c.args.n var.name) in
    added_all make c.args.vars.now c.loop-var.var-index c.loop-var.lines (c.args.lines.now ++ of_called all c.args.n c.args.vars.now) c.loop-var-test.false (c.loop-var.invariant all just)
