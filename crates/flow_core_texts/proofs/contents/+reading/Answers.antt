use Rattle.std.proofs.Common.{◌<◌, subst, arith}
use Rattle.cacao_json.specs.Size.{size, items_size, members_size}
use Rattle.cacao_json.specs.Tree.{data_of}
use Rattle.cacao_json.proofs.Trees.{item_within, pair_within}
use Rattle.flow_core_texts.proofs.contents.+reading.Goals as goal

pub read_contents-read_content-requires : goal.read_contents-read_content-requires
read_contents-read_content-requires t c =
    (omega (arith, subst (λ ds. size (data_of c.tree-item.result) < items_size ds) c.as_slice-trees.ensures.value (item_within c.as_slice-trees.result.now c.loop-tree.tree-index c.tree-item.result c.loop-tree-test.true c.tree-item.is)), tt)

pub read_entries-read_content-requires : goal.read_entries-read_content-requires
read_entries-read_content-requires t c =
    (omega (arith, subst (λ ms. size (data_of c.pair-item.result.tree) < members_size ms) c.as_slice-members.ensures.value (pair_within c.as_slice-members.result.now c.loop-pair.pair-index c.pair-item.result c.loop-pair-test.true c.pair-item.is)), tt)
