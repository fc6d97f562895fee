use Rattle.std.proofs.Common.{◌≡◌, ◌++◌, List, drop}
use Rattle.cacao_view_preflight.specs.NameSets.{HasJust}
use Rattle.cacao_view_preflight.specs.Warnings.{Text, of_variables}
use Rattle.cacao_view_preflight.proofs.variables.add_variables.Given as goal

abbrev pub invariant-loop-var : goal.invariant-loop-var
invariant-loop-var l = (all : List Text) → HasJust l.bound all → l.lines ++ of_variables all (drop l.var-index l.vars) ≡ l.fn.lines ++ of_variables all l.vars
