use Rattle.std.proofs.Common.{◌≡◌, map, take}
use Rattle.cacao_json.specs.Tree.{data_of}
use Rattle.cacao_view_log.specs.Objects.{text_data}
use Rattle.cacao_view_log.proofs.members.texts_tree.Given as goal

abbrev pub invariant-loop-text : goal.invariant-loop-text
invariant-loop-text l = map data_of l.trees.items ≡ map text_data (take l.text-index l.texts)
