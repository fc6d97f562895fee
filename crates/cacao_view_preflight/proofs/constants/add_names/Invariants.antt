use Rattle.std.proofs.Common.{◌++◌, List, map, take}
use Rattle.cacao_view_preflight.specs.NameSets.{HasJust}
use Rattle.cacao_view_preflight.specs.Names.{Text}
use Rattle.cacao_view_preflight.proofs.constants.add_names.Given as goal

abbrev pub invariant-loop-var : goal.invariant-loop-var
invariant-loop-var l = (all : List Text) → HasJust l.fn.names all → HasJust l.names (all ++ map (λ var. var.name) (take l.var-index l.vars))
