use Rattle.std.proofs.Common.{◌≡◌, map, take}
use Rattle.cacao_json.specs.Tree.{data_of}
use Rattle.cacao_text.specs.Canon.{book_text}
use Rattle.flow_core_setup.proofs.setup_reading.canonical_texts.Given as goal

abbrev pub invariant-loop-tree : goal.invariant-loop-tree
invariant-loop-tree l = l.texts.items ≡ map book_text (map data_of (take l.tree-index l.fn.trees))
