-- One variable more was looked at.
use Rattle.std.proofs.Common.{◌++◌, List}
use Rattle.std.specs.List.{flat_map}
use Rattle.cacao_vars.specs.declared.declarations.Var.{Var}
use Rattle.cacao_view_preflight.specs.Warnings.{Text, is_unset, step_front, step_variable_words, warn_if}
use Rattle.cacao_view_preflight.proofs.EachLemmas.{added_all, added_next}
use Rattle.cacao_view_preflight.proofs.inner_variables.add_variables.Goals as goal

pub loop-var-preserved : goal.loop-var-preserved
loop-var-preserved c =
    let make : Var → List Text = λ var. warn_if (is_unset var) (step_front c.args.n c.args.key.now ++ step_variable_words var.name) in
    added_next make c.args.vars.now c.loop-var.var-index c.var-item.result c.loop-var.lines c.add_variable.new.lines (c.args.lines.now ++ flat_map make c.args.vars.now) c.loop-var-test.true c.var-item.is
    c.in_ok-add_variable.ensures c.loop-var.invariant

pub returns : goal.returns
returns c =
    let make : Var → List Text = λ var. warn_if (is_unset var) (step_front c.args.n c.args.key.now ++ step_variable_words var.name) in
    added_all make c.args.vars.now c.loop-var.var-index c.loop-var.lines (c.args.lines.now ++ flat_map make c.args.vars.now) c.loop-var-test.false c.loop-var.invariant
