use Rattle.std.proofs.Common.{drop}
use Rattle.serde_json.specs.View.{items_view, members_view}
use Rattle.cacao_json_counts.specs.Counts.{numbers_of_items, numbers_of_pairs}
use Rattle.cacao_json.proofs.LeftToTake.{IsLeft}
use Rattle.cacao_json.proofs.whole.+whole.Given as goal

abbrev pub invariant-left_after_items-loop-value : goal.invariant-left_after_items-loop-value
invariant-left_after_items-loop-value l = IsLeft l.count l.left (numbers_of_items (items_view l.value-items)) (numbers_of_items (items_view (drop l.value-index l.value-items)))

abbrev pub invariant-left_after_pairs-loop-value : goal.invariant-left_after_pairs-loop-value
invariant-left_after_pairs-loop-value l = IsLeft l.count l.left (numbers_of_pairs (members_view l.pairs.entries)) (numbers_of_pairs (members_view l.value-iterator))
