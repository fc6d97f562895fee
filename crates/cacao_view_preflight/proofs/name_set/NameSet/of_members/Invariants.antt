use Rattle.std.proofs.Common.{map, take}
use Rattle.cacao_json.specs.Tree.{pair_data}
use Rattle.cacao_view_preflight.specs.NameSets.{HasJust}
use Rattle.cacao_view_preflight.specs.Warnings.{names_of}
use Rattle.cacao_view_preflight.proofs.name_set.NameSet.of_members.Given as goal

abbrev pub invariant-loop-pair : goal.invariant-loop-pair
invariant-loop-pair l = HasJust l.set (names_of (map pair_data (take l.pair-index l.members)))
