use Rattle.std.proofs.Common.{◌≡◌, ℕ, ◌+◌, ◌-◌, ◌<◌, Some, length, get_or, List, ◌++◌, drop, subst, sym, ap, ◌∙◌}
use Rattle.std.proofs.lemmas.List.{at_drop_more}
use Rattle.serde_json.specs.Data.{Num}
use Rattle.serde_json.specs.View.{view, items_view, members_view}
use Rattle.serde_json.specs.declared.value.Value.{Value}
use Rattle.serde_json.proofs.Views.{Entry}
use Rattle.cacao_json_counts.specs.Counts.{first_broken, numbers, numbers_of_items, numbers_of_pairs}
use Rattle.cacao_json.proofs.LeftToTake.{IsLeft, is_left_step, is_left_stop}
use Rattle.cacao_json.proofs.whole.+whole.Goals as goal

abbrev items_rest : List Value → List Num
items_rest vs = numbers_of_items (items_view vs)

-- this turn's value is the first of the rest
item_first : (count left : ℕ) (all : List Num) (vs : List Value) (i : ℕ) (v : Value) → i < length vs → v ≡ get_or vs i v → IsLeft count left all (items_rest (drop i vs))
    → IsLeft count left all (numbers (view v) ++ items_rest (drop (i + 1) vs))
item_first count left all vs i v below at w =
    subst (IsLeft count left all) (at_drop_more items_rest vs i v below ∙ ap (λ x. numbers (view x) ++ items_rest (drop (i + 1) vs)) (sym at)) w

pub left_after_items-returns-in-Err : goal.left_after_items-returns-in-Err
left_after_items-returns-in-Err t c =
    let vs = c.deref-value-items.result.now in
    let l = c.loop-value in
    let first = item_first c.args.count l.left (items_rest vs) vs l.value-index c.value-item.result c.loop-value-test.true c.value-item.is l.invariant in
    subst (λ ws. (i : ℕ) × (first_broken (items_rest ws) ≡ Some i) × (c.in-Err.before ≡ c.args.count - i)) c.deref-value-items.ensures.value
    (is_left_stop c.args.count l.left c.in-Err.before (items_rest vs) (numbers (view c.value-item.result)) _ c.in-Err.ensures first)

pub left_after_items-loop-value-preserved : goal.left_after_items-loop-value-preserved
left_after_items-loop-value-preserved t c =
    let vs = c.deref-value-items.result.now in
    let l = c.loop-value in
    is_left_step c.args.count l.left c.in-Ok.more (items_rest vs) (numbers (view c.value-item.result)) _ c.in-Ok.ensures
    (item_first c.args.count l.left (items_rest vs) vs l.value-index c.value-item.result c.loop-value-test.true c.value-item.is l.invariant)

abbrev pairs_rest : List Entry → List Num
pairs_rest es = numbers_of_pairs (members_view es)

pub left_after_pairs-returns-in-Err : goal.left_after_pairs-returns-in-Err
left_after_pairs-returns-in-Err t c =
    let l = c.loop-value in
    is_left_stop c.args.count l.left c.in-Err.before (pairs_rest c.args.pairs.now.entries) (numbers (view c.in-Some.value.now)) (pairs_rest c.next.new.self) c.in-Err.ensures
    (subst (λ es. IsLeft c.args.count l.left (pairs_rest c.args.pairs.now.entries) (pairs_rest es)) c.in-Some.ensures.steps l.invariant)

pub left_after_pairs-loop-value-preserved : goal.left_after_pairs-loop-value-preserved
left_after_pairs-loop-value-preserved t c =
    let l = c.loop-value in
    is_left_step c.args.count l.left c.in-Ok.more (pairs_rest c.args.pairs.now.entries) (numbers (view c.in-Some.value.now)) (pairs_rest c.next.new.self) c.in-Ok.ensures
    (subst (λ es. IsLeft c.args.count l.left (pairs_rest c.args.pairs.now.entries) (pairs_rest es)) c.in-Some.ensures.steps l.invariant)
