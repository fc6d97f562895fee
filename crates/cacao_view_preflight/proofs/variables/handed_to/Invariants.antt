use Rattle.std.proofs.Common.{take}
use Rattle.std.specs.List.{flat_map}
use Rattle.cacao_view_preflight.specs.NameSets.{HasJust}
use Rattle.cacao_view_preflight.specs.Warnings.{handed_in}
use Rattle.cacao_view_preflight.proofs.variables.handed_to.Given as goal

abbrev pub invariant-loop-book : goal.invariant-loop-book
invariant-loop-book l = HasJust l.names (flat_map (handed_in l.id) (take l.book-index l.books))
