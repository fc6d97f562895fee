use Rattle.std.proofs.Common.{◌∙◌, ◌++◌, ap, arith, sym}
use Rattle.serde_json.specs.Data.{array, object}
use Rattle.cacao_json.specs.declared.tree.Tree.{Tree}
use Rattle.cacao_json.specs.Tree.{data_of}
use Rattle.cacao_check_steps.specs.Uses.{referred_in}
use Rattle.cacao_check_steps.proofs.UseLemmas.{item_smaller, member_smaller, items_referred, members_referred}
use Rattle.cacao_check_steps.proofs.uses.+referred.Goals as goal

pub add_items-add_tree-requires : goal.add_items-add_tree-requires
add_items-add_tree-requires t c = omega (arith, item_smaller c.args.items.now c.loop-tree.tree-index c.tree-item.result c.loop-tree-test.true c.tree-item.is)

pub add_members-add_tree-requires : goal.add_members-add_tree-requires
add_members-add_tree-requires t c = omega (arith, member_smaller c.args.pairs.now c.loop-pair.pair-index c.pair-item.result c.loop-pair-test.true c.pair-item.is)

pub add_tree-returns-in_ok-add_items-in-List : goal.add_tree-returns-in_ok-add_items-in-List
add_tree-returns-in_ok-add_items-in-List t c =
    c.in_ok-add_items-in-List.ensures
    ∙ ap (λ l. c.args.all.now.items ++ l) (items_referred c.as_slice.result.now ∙ ap (λ ds. referred_in (array ds)) c.as_slice.ensures.value ∙ ap (λ (tree : Tree). referred_in (data_of tree)) (sym c.in-List.is))

pub add_tree-returns-in_ok-add_members-in-Members : goal.add_tree-returns-in_ok-add_members-in-Members
add_tree-returns-in_ok-add_members-in-Members t c =
    c.in_ok-add_members-in-Members.ensures
    ∙ ap (λ l. c.args.all.now.items ++ l) (members_referred c.as_slice-in-Members.result.now ∙ ap (λ ms. referred_in (object ms)) c.as_slice-in-Members.ensures.value ∙ ap (λ (tree : Tree). referred_in (data_of tree)) (sym c.in-Members.is))
