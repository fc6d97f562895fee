-- A text that has a tree is read as it.
use Rattle.std.proofs.Common.{◌∙◌, Option, sym, ap, option_map}
use Rattle.cacao_json.specs.Reading.{tree}
use Rattle.cacao_json.specs.Tree.{data_of}
use Rattle.cacao_json.specs.declared.tree.Tree.{Tree}
use Rattle.cacao_view_graph.proofs.TreeLemmas.{no_tree}
use Rattle.cacao_view_graph.proofs.trees.tree_of.Goals as goal

pub returns : goal.returns
returns c =
    ap (λ (o : Option Tree). option_map data_of o) (sym c.in-Some.is) ∙ c.in_ok-tree.ensures.value ∙ ap tree c.as_slice.ensures

pub unreachable-requires : goal.unreachable-requires
unreachable-requires c = no_tree _ _ c.requires (c.in_ok-tree.ensures.value ∙ ap tree c.as_slice.ensures) c.in-None.is
