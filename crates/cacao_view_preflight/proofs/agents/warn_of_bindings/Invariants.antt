use Rattle.std.proofs.Common.{◌≡◌, ◌++◌, List, drop, map}
use Rattle.cacao_json.specs.Tree.{pair_data}
use Rattle.cacao_view_preflight.specs.NameSets.{HasJust}
use Rattle.cacao_view_preflight.specs.Warnings.{Text, names_of, of_bindings}
use Rattle.cacao_view_preflight.proofs.agents.warn_of_bindings.Given as goal

abbrev pub invariant-loop-pair : goal.invariant-loop-pair
invariant-loop-pair l =
    (all : List Text) → HasJust l.defined all → l.lines ++ of_bindings all (names_of (map pair_data (drop l.pair-index l.bound))) ≡ l.fn.lines ++ of_bindings all (names_of (map pair_data l.bound))
