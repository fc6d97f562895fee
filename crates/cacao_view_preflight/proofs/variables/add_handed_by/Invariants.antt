use Rattle.std.proofs.Common.{◌++◌, List, take}
use Rattle.std.specs.List.{flat_map}
use Rattle.cacao_view_preflight.specs.NameSets.{HasJust}
use Rattle.cacao_view_preflight.specs.Warnings.{Text, handed}
use Rattle.cacao_view_preflight.proofs.variables.add_handed_by.Given as goal

abbrev pub invariant-loop-step : goal.invariant-loop-step
invariant-loop-step l = (all : List Text) → HasJust l.fn.names all → HasJust l.names (all ++ flat_map (λ step. handed l.id step.kind) (take l.step-index l.steps))
