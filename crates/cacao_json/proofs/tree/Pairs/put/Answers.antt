use Rattle.std.proofs.Common.{IsUtf8, sym, ap, subst, ◌∙◌}
use Rattle.serde_json.specs.Data.{put}
use Rattle.cacao_json.specs.declared.tree.Pair.{Pair}
use Rattle.cacao_json.specs.Tree.{data_of, pairs_data}
use Rattle.cacao_json.specs.Profile.{AreSortedMembers}
use Rattle.cacao_json.proofs.Places.{set_there, inserted_there}
use Rattle.cacao_json.proofs.Shapes.{sorted_put}
use Rattle.cacao_json.proofs.tree.Pairs.put.Goals as goal

pub invariant_of-self : goal.invariant_of-self
invariant_of-self c =
    let p : Pair = record { name = c.args.name; tree = c.args.tree } in
    let ps = c.self.inside.pairs.items in
    subst AreSortedMembers (sym (set_there ps c.deref.result.now c.deref.ensures.value c.text.result.now c.in-Ok.place p c.text.ensures c.in-Ok.ensures))
    (sorted_put c.args.name (data_of c.args.tree) (pairs_data ps) (subst IsUtf8 c.text.ensures c.text.utf8) c.tree_law.ensures c.self.invariant)

pub invariant_of-self-in-Err : goal.invariant_of-self-in-Err
invariant_of-self-in-Err c =
    let p : Pair = record { name = c.args.name; tree = c.args.tree } in
    let ps = c.self.inside.pairs.items in
    subst AreSortedMembers (sym (ap pairs_data c.in_ok-insert-in-Err.ensures.items ∙ inserted_there ps c.deref.result.now c.deref.ensures.value c.text.result.now c.in-Err.place p c.text.ensures c.in-Err.ensures))
    (sorted_put c.args.name (data_of c.args.tree) (pairs_data ps) (subst IsUtf8 c.text.ensures c.text.utf8) c.tree_law.ensures c.self.invariant)

pub returns-in-Ok : goal.returns-in-Ok
returns-in-Ok c =
    let p : Pair = record { name = c.args.name; tree = c.args.tree } in
    set_there c.self.inside.pairs.items c.deref.result.now c.deref.ensures.value c.text.result.now c.in-Ok.place p c.text.ensures c.in-Ok.ensures ∙ ap (put c.args.name (data_of c.args.tree)) c.self.view_is

pub returns-in_ok-insert-in-Err : goal.returns-in_ok-insert-in-Err
returns-in_ok-insert-in-Err c =
    let p : Pair = record { name = c.args.name; tree = c.args.tree } in
    ap pairs_data c.in_ok-insert-in-Err.ensures.items
    ∙ inserted_there c.self.inside.pairs.items c.deref.result.now c.deref.ensures.value c.text.result.now c.in-Err.place p c.text.ensures c.in-Err.ensures ∙ ap (put c.args.name (data_of c.args.tree)) c.self.view_is
