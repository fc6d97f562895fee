use Rattle.std.proofs.Common.{◌<◌, ◌∙◌, ap, arith, subst, sym}
use Rattle.cacao_json.specs.Profile.{AreSortedMembers}
use Rattle.cacao_json.specs.Size.{size, items_size, members_size}
use Rattle.cacao_json.specs.Tree.{data_of}
use Rattle.cacao_json.proofs.Trees.{item_within, pair_within}
use Rattle.cacao_view_preflight.specs.Constants.{constant_in, constant_items, constant_members}
use Rattle.cacao_view_preflight.proofs.ConstantLemmas.{items_done, members_done, members_more}
use Rattle.cacao_view_preflight.proofs.constants.+constants.Goals as goal

pub constant_items-with_constants-requires : goal.constant_items-with_constants-requires
constant_items-with_constants-requires t c =
    (omega (arith, subst (λ ds. size (data_of c.tree-item.result) < items_size ds) c.as_slice-trees.ensures.value (item_within c.as_slice-trees.result.now c.loop-tree.tree-index c.tree-item.result c.loop-tree-test.true c.tree-item.is)), tt)

pub constant_items-returns : goal.constant_items-returns
constant_items-returns t c =
    c.from_vec.ensures
    ∙ items_done (constant_in c.args.own.now c.args.outer.now) c.as_slice-trees.result.now c.loop-tree.made.items c.loop-tree.tree-index c.loop-tree-test.false c.loop-tree.invariant
    ∙ ap (constant_items (constant_in c.args.own.now c.args.outer.now)) c.as_slice-trees.ensures.value

pub constant_pairs-with_constants-requires : goal.constant_pairs-with_constants-requires
constant_pairs-with_constants-requires t c =
    (omega (arith, subst (λ ms. size (data_of c.pair-item.result.tree) < members_size ms) c.as_slice-members.ensures.value (pair_within c.as_slice-members.result.now c.loop-pair.pair-index c.pair-item.result c.loop-pair-test.true c.pair-item.is)), tt)

pub constant_pairs-loop-pair-preserved : goal.constant_pairs-loop-pair-preserved
constant_pairs-loop-pair-preserved t c =
    members_more (constant_in c.args.own.now c.args.outer.now) c.as_slice-members.result.now c.loop-pair.made _ c.loop-pair.pair-index c.pair-item.result _ _
    (subst AreSortedMembers (sym c.as_slice-members.ensures.value) c.as_slice-members.ensures.sorted)
    c.loop-pair-test.true c.pair-item.is c.in_ok-name.ensures.cases c.in_ok-tree.ensures c.in_ok-put.ensures c.loop-pair.invariant

pub constant_pairs-returns : goal.constant_pairs-returns
constant_pairs-returns t c =
    members_done (constant_in c.args.own.now c.args.outer.now) c.as_slice-members.result.now c.loop-pair.made c.loop-pair.pair-index c.loop-pair-test.false c.loop-pair.invariant
    ∙ ap (constant_members (constant_in c.args.own.now c.args.outer.now)) c.as_slice-members.ensures.value
