use Rattle.std.proofs.Common.{◌≡◌, ◌++◌, List, drop}
use Rattle.cacao_view_preflight.specs.NameSets.{HasJust}
use Rattle.cacao_view_preflight.specs.Warnings.{Text, of_called}
use Rattle.cacao_view_preflight.proofs.variables.add_all_called.Given as goal

abbrev pub invariant-loop-var : goal.invariant-loop-var
invariant-loop-var l = (all : List Text) → HasJust l.given all → l.lines ++ of_called all l.n (drop l.var-index l.vars) ≡ l.fn.lines ++ of_called all l.n l.vars
