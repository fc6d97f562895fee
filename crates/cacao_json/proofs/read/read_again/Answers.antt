use Rattle.std.proofs.Common.{◌≡◌, ◌-◌, length, Some, option_map, sym, ap, ◌∙◌, arith}
use Rattle.serde_json.specs.View.{view}
use Rattle.cacao_json_counts.specs.Counts.{numbers}
use Rattle.cacao_json.proofs.LeftToTake.{first_broken_below}
use Rattle.cacao_json.proofs.Readings.{numbers-reading, all_taken, tree-from_reading}
use Rattle.cacao_json.proofs.Shapes.{IsTree-from_tree}
use Rattle.cacao_json.proofs.read.read_again.Goals as goal

pub tree_of-requires : goal.tree_of-requires
tree_of-requires c =
    let bytes = c.args.bytes.now in
    let d = view c.in-Some.value in
    let reads = sym c.in_ok-value.ensures ∙ ap (option_map view) c.in-Some.is in
    let same = all_taken bytes d _ _ reads c.count_colons-colons.ensures.value c.left_after_members-left.ensures c.if-left-gt0.false in
    (IsTree-from_tree bytes d (tree-from_reading bytes d reads same c.in_default-left_after_numbers.ensures.0)).formed

pub returns-in-Err-clause-err : goal.returns-in-Err-clause-err
returns-in-Err-clause-err c =
    let bytes = c.args.bytes.now in
    let d = view c.in-Some.value in
    let reads = sym c.in_ok-value.ensures ∙ ap (option_map view) c.in-Some.is in
    let i = c.in-Err.ensures.0 in
    let same = all_taken bytes d _ _ reads c.count_colons-colons.ensures.value c.left_after_members-left.ensures c.if-left-gt0.false in
    let index : i ≡ length bytes - c.in-Err.left = omega (arith, c.in-Err.ensures.2, numbers-reading bytes d reads, first_broken_below (numbers d) i c.in-Err.ensures.1) in
    (d, reads, (same, c.in-Err.ensures.1 ∙ ap Some index))

pub returns-clause-ok : goal.returns-clause-ok
returns-clause-ok c =
    let bytes = c.args.bytes.now in
    let d = view c.in-Some.value in
    let reads = sym c.in_ok-value.ensures ∙ ap (option_map view) c.in-Some.is in
    let same = all_taken bytes d _ _ reads c.count_colons-colons.ensures.value c.left_after_members-left.ensures c.if-left-gt0.false in
    tree-from_reading bytes d reads same c.in_default-left_after_numbers.ensures.0 ∙ ap Some (sym c.in_ok-tree_of.ensures)
