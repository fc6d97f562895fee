-- The names are those that the step hands over.
use Rattle.std.proofs.Common.{◌++◌, List, subst}
use Rattle.cacao_view_preflight.specs.NameSets.{HasJust}
use Rattle.cacao_view_preflight.specs.Warnings.{Text}
use Rattle.cacao_view_preflight.proofs.variables.add_handed.Goals as goal

pub returns : goal.returns
returns c = λ all just. subst (λ (l : List Text). HasJust c.add_all.new.self (all ++ l)) c.handed.ensures (c.in_ok-add_all.ensures all just)
