use Rattle.std.proofs.Common.{ap, ◌∙◌}
use Rattle.cacao_json.specs.Tree.{data_of, item_last}
use Rattle.cacao_json.proofs.Trees.{data_items, sorted_last, item_last-append}
use Rattle.cacao_json.proofs.tree.Items.push.Goals as goal

pub invariant_of-self-2 : goal.invariant_of-self-2
invariant_of-self-2 c = rw c.in_ok-push.ensures.items (sorted_last _ _ c.self.invariant c.tree_law.ensures)

pub returns : goal.returns
returns c = ap data_items c.in_ok-push.ensures.items ∙ item_last-append _ _ ∙ ap (λ ds. item_last ds (data_of c.args.tree)) c.self.view_is
