use Rattle.std.proofs.Common.{◌+◌, ◌≤◌, length, IsUtf8, sym, ap, subst, ◌∙◌}
use Rattle.serde_json.specs.Data.{put}
use Rattle.cacao_json.specs.declared.tree.Pair.{Pair}
use Rattle.cacao_json_counts.specs.Counts.{members, members_of_pairs}
use Rattle.cacao_json.specs.Tree.{data_of, pairs_data}
use Rattle.cacao_json.specs.Profile.{AreSortedMembers}
use Rattle.cacao_json.proofs.Places.{inserted_there}
use Rattle.cacao_json.proofs.Shapes.{sorted_put}
use Rattle.cacao_json.proofs.StraightLemmas.{counted_insert}
use Rattle.cacao_json.proofs.tree.Pairs.add.Goals as goal

pub invariant_of-self-in-Err : goal.invariant_of-self-in-Err
invariant_of-self-in-Err c =
    let p : Pair = record { name = c.args.name; tree = c.args.tree } in
    let ps = c.self.inside.pairs.items in
    subst AreSortedMembers (sym (ap pairs_data c.in_ok-insert-in-Err.ensures.items ∙ inserted_there ps c.deref.result.now c.deref.ensures.value c.text.result.now c.in-Err.place p c.text.ensures c.in-Err.ensures))
    (sorted_put c.args.name (data_of c.args.tree) (pairs_data ps) (subst IsUtf8 c.text.ensures c.text.utf8) c.requires c.self.invariant)

pub returns-in_ok-insert-in-Err-clause-value : goal.returns-in_ok-insert-in-Err-clause-value
returns-in_ok-insert-in-Err-clause-value c =
    let p : Pair = record { name = c.args.name; tree = c.args.tree } in
    ap pairs_data c.in_ok-insert-in-Err.ensures.items
    ∙ inserted_there c.self.inside.pairs.items c.deref.result.now c.deref.ensures.value c.text.result.now c.in-Err.place p c.text.ensures c.in-Err.ensures
    ∙ ap (put c.args.name (data_of c.args.tree)) c.self.view_is

pub returns-in_ok-insert-in-Err-clause-counted : goal.returns-in_ok-insert-in-Err-clause-counted
returns-in_ok-insert-in-Err-clause-counted c =
    let p : Pair = record { name = c.args.name; tree = c.args.tree } in
    ap (λ ps. members_of_pairs (pairs_data ps)) c.in_ok-insert-in-Err.ensures.items
    ∙ counted_insert c.self.inside.pairs.items c.in-Err.place p (subst (λ ps. c.in-Err.place ≤ length ps) c.deref.ensures.value c.in-Err.ensures.0)
    ∙ ap (λ ms. 1 + (members (data_of c.args.tree) + members_of_pairs ms)) c.self.view_is
