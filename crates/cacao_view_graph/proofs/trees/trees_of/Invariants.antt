use Rattle.std.proofs.Common.{◌≡◌, Some, map, take}
use Rattle.cacao_json.specs.Reading.{tree}
use Rattle.cacao_json.specs.Tree.{data_of}
use Rattle.cacao_json.specs.declared.tree.Tree.{Tree}
use Rattle.cacao_view_graph.proofs.trees.trees_of.Given as goal

abbrev pub invariant-loop-text : goal.invariant-loop-text
invariant-loop-text l = map (λ (t : Tree). Some (data_of t)) l.trees.items ≡ map tree (take l.text-index l.texts)
