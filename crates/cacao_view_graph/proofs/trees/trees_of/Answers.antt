use Rattle.std.proofs.Common.{ℕ, List, IsSome, subst, sym}
use Rattle.cacao_json.specs.Reading.{tree}
use Rattle.cacao_view_graph.proofs.TreeLemmas.{read_more}
use Rattle.cacao_view_graph.proofs.trees.trees_of.Goals as goal

pub tree_of-requires : goal.tree_of-requires
tree_of-requires c =
    subst (λ (text : List ℕ). IsSome (tree text)) (sym c.text-item.is) (c.requires c.loop-text.text-index c.text-item.result c.loop-text-test.true)

pub loop-text-preserved : goal.loop-text-preserved
loop-text-preserved c =
    read_more c.args.texts.now c.loop-text.text-index c.text-item.result c.loop-text.trees.items c.push.new.self.items c.in_ok-tree_of.field-0 c.loop-text-test.true c.text-item.is
    c.in_ok-push.ensures.items c.in_ok-tree_of.ensures c.loop-text.invariant
