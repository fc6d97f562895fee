use Rattle.std.proofs.Common.{◌++◌, List, take}
use Rattle.cacao_view_preflight.specs.NameSets.{HasJust}
use Rattle.cacao_view_preflight.specs.Warnings.{Text}
use Rattle.cacao_view_preflight.proofs.name_set.NameSet.add_all.Given as goal

abbrev pub invariant-loop-name : goal.invariant-loop-name
invariant-loop-name l = (all : List Text) → HasJust l.fn.self all → HasJust l.self (all ++ take l.name-index l.names)
