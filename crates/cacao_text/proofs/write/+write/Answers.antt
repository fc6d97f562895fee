use Rattle.std.proofs.Common.{◌<◌, [], ◌∷◌, length, sym, ap, subst, ◌∙◌, rules}
use Rattle.std.specs.Prelude.{OnOk, All, flat_map}
use Rattle.json.specs.Token.{begin_object, end_object, begin_array, end_array}
use Rattle.cacao_text.specs.Arranged.{pairs_data, value_tokens, sorted_tokens, tree_tokens, pair_tokens, place_tokens, Adds}
use Rattle.cacao_text.proofs.Placed.{sorted_places_within, kept-all}
use Rattle.cacao_text.proofs.Added.{step, step_place, looped, adds_then, adds_last, array_tokens, object_tokens, sorted_tokens-in_order, sorted_tokens-places}
use Rattle.cacao_json.specs.Tree.{pair_data, members_of}
use Rattle.std.proofs.Common.{map, false}
use Rattle.std.proofs.Common.{arith, get_or}
use Rattle.serde_json.specs.Data.{object}
use Rattle.cacao_json.specs.Tree.{data_of}
use Rattle.cacao_json.specs.Profile.{AreSortedMembers}
use Rattle.cacao_json.proofs.Trees.{item_within, pair_within}
use Rattle.cacao_text.proofs.write.+write.Goals as goal

pub write_tree-returns-in-Members : goal.write_tree-returns-in-Members
write_tree-returns-in-Members t c =
    let same = ap (λ ms. object ms) c.as_slice-in-Members.ensures.value ∙ ap data_of (sym c.in-Members.is) in
    subst (λ d. OnOk c.write_pairs.result (Adds c.args.writer.now c.write_pairs.new.writer (value_tokens d))) same c.write_pairs.ensures

pub write_tree-write_pairs-requires : goal.write_tree-write_pairs-requires
write_tree-write_pairs-requires t c = (search rules, subst AreSortedMembers (sym c.as_slice-in-Members.ensures.value) c.as_slice-in-Members.ensures.sorted)

pub write_items-write_tree-requires : goal.write_items-write_tree-requires
write_items-write_tree-requires t c = omega (arith, item_within c.args.items.now c.loop-tree.tree-index c.tree-item.result c.loop-tree-test.true c.tree-item.is)

pub write_all-write_pair-requires : goal.write_all-write_pair-requires
write_all-write_pair-requires t c = omega (arith, pair_within c.args.pairs.now c.loop-pair.pair-index c.pair-item.result c.loop-pair-test.true c.pair-item.is)

pub write_places-write_pair-requires : goal.write_places-write_pair-requires
write_places-write_pair-requires t c =
    omega (arith, pair_within c.args.pairs.now (get_or c.args.order.now c.loop-place.place-index 0) c.index-pairs-place.result (c.requires c.loop-place.place-index 0 c.loop-place-test.true) c.index-pairs-place.is)

pub write_all-loop-pair-preserved : goal.write_all-loop-pair-preserved
write_all-loop-pair-preserved t c =
    let l = c.loop-pair in
    let w = c.in_ok-write_pair.ensures in
    (w.0 ∙ l.invariant.0, step pair_tokens l.writer.tokens c.write_pair.new.writer.tokens _ c.args.pairs.now l.pair-index c.pair-item.result c.loop-pair-test.true c.pair-item.is w.1 l.invariant.1)

pub write_all-returns : goal.write_all-returns
write_all-returns t c =
    let l = c.loop-pair in
    let old = c.args.writer.now.tokens in
    (l.invariant.0, looped pair_tokens old l.writer.tokens c.args.pairs.now l.pair-index c.loop-pair-test.false l.invariant.1)

pub write_items-loop-tree-preserved : goal.write_items-loop-tree-preserved
write_items-loop-tree-preserved t c =
    let l = c.loop-tree in
    let w = c.in_ok-write_tree.ensures in
    (w.0 ∙ l.invariant.0, step tree_tokens l.writer.tokens c.write_tree.new.writer.tokens _ c.args.items.now l.tree-index c.tree-item.result c.loop-tree-test.true c.tree-item.is w.1 l.invariant.1)

pub write_items-returns : goal.write_items-returns
write_items-returns t c =
    let l = c.loop-tree in
    let ts = c.args.items.now in
    let start = c.args.writer.now in
    let opened = c.begin_array.new.self in
    let first : Adds start opened (begin_array ∷ []) = (c.in_ok-begin_array.ensures.room.0, c.in_ok-begin_array.ensures.ok) in
    let items : Adds opened l.writer (flat_map tree_tokens ts) = (l.invariant.0, looped tree_tokens opened.tokens l.writer.tokens ts l.tree-index c.loop-tree-test.false l.invariant.1) in
    adds_last c.end_array.result start l.writer c.end_array.new.self (begin_array ∷ flat_map tree_tokens ts) _ end_array (adds_then start opened l.writer (begin_array ∷ []) (flat_map tree_tokens ts) first items) c.end_array.ensures
    (array_tokens _)

pub write_pairs-returns : goal.write_pairs-returns
write_pairs-returns t c =
    let ms = pairs_data c.args.pairs.now in
    let start = c.args.writer.now in
    let opened = c.begin_object.new.self in
    let full = c.write_members.new.writer in
    let first : Adds start opened (begin_object ∷ []) = (c.in_ok-begin_object.ensures.room.0, c.in_ok-begin_object.ensures.ok) in
    adds_last c.end_object.result start full c.end_object.new.self (begin_object ∷ sorted_tokens ms) _ end_object (adds_then start opened full (begin_object ∷ []) (sorted_tokens ms) first c.in_ok-write_members.ensures) c.end_object.ensures (object_tokens ms)

pub write_members-write_places-requires : goal.write_members-write_places-requires
write_members-write_places-requires t c =
    let ps = c.args.pairs.now in
    (search rules, subst (All (λ i. i < length ps)) (sym (c.deref.ensures.value ∙ c.in_ok-order.ensures)) (sorted_places_within false ps))

pub write_members-returns : goal.write_members-returns
write_members-returns t c =
    let ps = c.args.pairs.now in
    let whole = ap (flat_map (place_tokens ps)) (c.deref.ensures.value ∙ c.in_ok-order.ensures) ∙ sorted_tokens-places false ps ∙ ap (λ qs. sorted_tokens (members_of (map pair_data qs))) (kept-all ps) in
    subst (λ ts. OnOk c.write_places.result (Adds c.args.writer.now c.write_places.new.writer ts)) whole c.write_places.ensures

pub write_members-returns-then-is_in_order : goal.write_members-returns-then-is_in_order
write_members-returns-then-is_in_order t c =
    let ps = c.args.pairs.now in
    let whole = sorted_tokens-in_order ps c.if-is_in_order.ensures in
    subst (λ ts. OnOk c.write_all.result (Adds c.args.writer.now c.write_all.new.writer ts)) whole c.write_all.ensures

pub write_places-loop-place-preserved : goal.write_places-loop-place-preserved
write_places-loop-place-preserved t c =
    let l = c.loop-place in
    let w = c.in_ok-write_pair.ensures in (
      w.0 ∙ l.invariant.0,
      step_place (c.args.pairs.now) l.writer.tokens c.write_pair.new.writer.tokens _ c.args.order.now l.place-index c.index-pairs-place.result c.loop-place-test.true
          (c.requires l.place-index 0 c.loop-place-test.true) c.index-pairs-place.is w.1 l.invariant.1,
    )

pub write_places-returns : goal.write_places-returns
write_places-returns t c =
    let l = c.loop-place in
    (l.invariant.0, looped (place_tokens (c.args.pairs.now)) c.args.writer.now.tokens l.writer.tokens c.args.order.now l.place-index c.loop-place-test.false l.invariant.1)
