use Rattle.std.proofs.Common.{Some, option_map, sym, ap, ◌∙◌, subst}
use Rattle.serde_json.specs.View.{view}
use Rattle.cacao_json.specs.Profile.{IsTree}
use Rattle.cacao_json.proofs.Readings.{all_taken, none_broken, tree-from_reading}
use Rattle.cacao_json.proofs.Shapes.{IsTree-from_tree}
use Rattle.cacao_json.proofs.read.find_again.Goals as goal

pub tree_of-requires : goal.tree_of-requires
tree_of-requires c =
    let bytes = c.args.bytes.now in
    let d = view c.in-Some.value in
    let reads = sym c.in_ok-value.ensures ∙ ap (option_map view) c.in-Some.is in
    (IsTree-from_tree bytes d (tree-from_reading bytes d reads (all_taken bytes d _ _ reads c.count_colons-colons.ensures.value c.left_after_members.ensures c.if-left_after_members-gt0.false)
    (none_broken c.left_after_numbers.result _ d (sym c.is_err.ensures.value ∙ c.if-is_err.false) c.left_after_numbers.ensures))).formed

pub returns-clause-value : goal.returns-clause-value
returns-clause-value c =
    let bytes = c.args.bytes.now in
    let d = view c.in-Some.value in
    let reads = sym c.in_ok-value.ensures ∙ ap (option_map view) c.in-Some.is in
    ap Some c.in_ok-tree_of.ensures ∙ sym (tree-from_reading bytes d reads (all_taken bytes d _ _ reads c.count_colons-colons.ensures.value c.left_after_members.ensures c.if-left_after_members-gt0.false)
    (none_broken c.left_after_numbers.result _ d (sym c.is_err.ensures.value ∙ c.if-is_err.false) c.left_after_numbers.ensures))

pub returns-clause-profile : goal.returns-clause-profile
returns-clause-profile c =
    let bytes = c.args.bytes.now in
    let d = view c.in-Some.value in
    let reads = sym c.in_ok-value.ensures ∙ ap (option_map view) c.in-Some.is in
    subst IsTree (sym c.in_ok-tree_of.ensures) (IsTree-from_tree bytes d (tree-from_reading bytes d reads (all_taken bytes d _ _ reads c.count_colons-colons.ensures.value c.left_after_members.ensures c.if-left_after_members-gt0.false)
    (none_broken c.left_after_numbers.result _ d (sym c.is_err.ensures.value ∙ c.if-is_err.false) c.left_after_numbers.ensures)))
