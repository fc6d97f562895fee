use Rattle.std.proofs.Common.{◌≡◌, [], ◌∷◌, ◌++◌, refl, sym, ap, subst, ◌∙◌, append_assoc, append-nil, ◌<◌, arith, length}
use Rattle.std.specs.Vec.Iter.{into_iter_items}
use Rattle.serde_json.specs.View.{view, items_view, members_view}
use Rattle.serde_json.proofs.Views.{Entry}
use Rattle.cacao_json.specs.Profile.{AreSorted, AreSortedMembers, AreFormed, AreFormedMembers}
use Rattle.cacao_json.specs.Tree.{items_of, members_of}
use Rattle.cacao_json.proofs.Trees.{items_push, items_of-views, members_of-entries, pairs_push, none_of_length}
use Rattle.cacao_json.specs.Size.{size, items_size, members_size}
use Rattle.cacao_json.proofs.Sizes.{item_smaller, pair_smaller}
use Rattle.cacao_json.proofs.FormedParts.{formed_item, formed_pair, sorted_items, sorted_members}
use Rattle.cacao_json.proofs.convert.+convert.Goals as goal

pub list_of-tree_of-requires : goal.list_of-tree_of-requires
list_of-tree_of-requires t c =
    let done = c.loop-item.invariant.0 in
    let left = into_iter_items c.next.new.self in
    let all : c.args.items.items ≡ done ++ c.in-Some.item ∷ left = c.loop-item.invariant.1 ∙ ap (λ vs. done ++ vs) c.in-Some.ensures.steps.0 in
    (omega (arith, subst (λ vs. size (view c.in-Some.item) < items_size (items_view vs)) (sym all) (item_smaller done left c.in-Some.item)), formed_item done left c.in-Some.item (subst (λ vs. AreFormed (items_view vs)) all c.requires))

pub list_of-loop-item-preserved : goal.list_of-loop-item-preserved
list_of-loop-item-preserved t c =
    let l = c.loop-item in
    let done = l.invariant.0 in
    let v = c.in-Some.item in
    let left = into_iter_items c.next.new.self in
    let all : c.args.items.items ≡ done ++ v ∷ left = l.invariant.1 ∙ ap (λ vs. done ++ vs) c.in-Some.ensures.steps.0 in (
      done ++ v ∷ [],
      all ∙ sym (append_assoc done (v ∷ []) left),
      items_push l.trees.items c.push.new.self.items c.in_ok-tree_of.field-0 done v c.in_ok-push.ensures.items l.invariant.2 c.in_ok-tree_of.ensures,
      omega (arith, l.invariant.3, ap length c.in-Some.ensures.steps.0, c.in-Some.ensures.steps.1),
    )

pub list_of-returns : goal.list_of-returns
list_of-returns t c =
    let l = c.loop-item in
    ap items_of l.invariant.2 ∙ items_of-views l.invariant.0 ∙ ap items_view (sym (l.invariant.1 ∙ ap (λ vs. l.invariant.0 ++ vs) (none_of_length (into_iter_items l.item-iterator) (sym l.invariant.3 ∙ c.in-None.ensures.steps.0)) ∙ append-nil l.invariant.0))

pub pairs_of-tree_of-requires : goal.pairs_of-tree_of-requires
pairs_of-tree_of-requires t c =
    let done = c.loop-name.invariant.0 in
    let e : Entry = (c.in-Some.name, c.in-Some.value) in
    let left = c.next.new.self in
    let all : c.args.members.entries ≡ done ++ e ∷ left = c.loop-name.invariant.1 ∙ ap (λ es. done ++ es) c.in-Some.ensures.steps in
    (omega (arith, subst (λ es. size (view c.in-Some.value) < members_size (members_view es)) (sym all) (pair_smaller done left e)), formed_pair done left e (subst (λ es. AreFormedMembers (members_view es)) all c.requires))

pub pairs_of-loop-name-preserved : goal.pairs_of-loop-name-preserved
pairs_of-loop-name-preserved t c =
    let l = c.loop-name in
    let done = l.invariant.0 in
    let e : Entry = (c.in-Some.name, c.in-Some.value) in
    let left = c.next.new.self in
    let all : c.args.members.entries ≡ done ++ e ∷ left = l.invariant.1 ∙ ap (λ es. done ++ es) c.in-Some.ensures.steps in (
      done ++ e ∷ [],
      all ∙ sym (append_assoc done (e ∷ []) left),
      pairs_push l.pairs.items c.push.new.self.items _ done e c.in_ok-push.ensures.items l.invariant.2
          (rw (c.from_string-name.ensures, c.in_ok-tree.ensures) refl),
    )

pub pairs_of-returns : goal.pairs_of-returns
pairs_of-returns t c =
    let l = c.loop-name in
    ap members_of l.invariant.2 ∙ members_of-entries l.invariant.0 ∙ ap members_view (sym (l.invariant.1 ∙ ap (λ es. l.invariant.0 ++ es) c.in-None.ensures.steps.0 ∙ append-nil l.invariant.0))

pub list_of-invariant_of-result : goal.list_of-invariant_of-result
list_of-invariant_of-result t c =
    let l = c.loop-item in
    let same = ap items_of l.invariant.2 ∙ items_of-views l.invariant.0 ∙ ap items_view (sym (l.invariant.1 ∙ ap (λ vs. l.invariant.0 ++ vs) (none_of_length (into_iter_items l.item-iterator) (sym l.invariant.3 ∙ c.in-None.ensures.steps.0)) ∙ append-nil l.invariant.0)) in
    subst AreSorted (sym same) (sorted_items _ c.requires)

pub pairs_of-invariant_of-result : goal.pairs_of-invariant_of-result
pairs_of-invariant_of-result t c =
    let l = c.loop-name in
    let same = ap members_of l.invariant.2 ∙ members_of-entries l.invariant.0 ∙ ap members_view (sym (l.invariant.1 ∙ ap (λ es. l.invariant.0 ++ es) c.in-None.ensures.steps.0 ∙ append-nil l.invariant.0)) in
    subst AreSortedMembers (sym same) (sorted_members _ c.requires)
