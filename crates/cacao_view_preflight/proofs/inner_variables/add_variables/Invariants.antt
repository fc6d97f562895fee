use Rattle.std.proofs.Common.{◌≡◌, ◌++◌, drop}
use Rattle.std.specs.List.{flat_map}
use Rattle.cacao_view_preflight.specs.Warnings.{is_unset, step_front, step_variable_words, warn_if}
use Rattle.cacao_view_preflight.proofs.inner_variables.add_variables.Given as goal

abbrev pub invariant-loop-var : goal.invariant-loop-var
invariant-loop-var l =
    l.lines ++ flat_map (λ var. warn_if (is_unset var) (step_front l.n l.key ++ step_variable_words var.name)) (drop l.var-index l.vars)
    ≡ l.fn.lines ++ flat_map (λ var. warn_if (is_unset var) (step_front l.n l.key ++ step_variable_words var.name)) l.vars
