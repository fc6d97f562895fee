use Rattle.std.specs.Prelude.{option_map}
use Rattle.cacao_json.specs.Tree.{data_of}
use Rattle.flow_core_texts.specs.Contents.{content_data}
use Rattle.flow_core_texts.proofs.ContentLemmas.{AreRead}
use Rattle.flow_core_texts.proofs.wordings.read_trees.Given as goal

abbrev pub invariant-loop-tree : goal.invariant-loop-tree
invariant-loop-tree l = AreRead (option_map data_of) (option_map content_data) l.trees l.contents.items l.tree-index
