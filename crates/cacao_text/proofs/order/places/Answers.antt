use Rattle.std.proofs.Common.{◌≡◌, ◌+◌, refl, sym, ap, subst, ◌∙◌, IfOk}
use Rattle.cacao_json.specs.Tree.{pair_data}
use Rattle.cacao_text.specs.Canon.{units}
use Rattle.cacao_text.specs.Arranged.{is_kept}
use Rattle.cacao_text.proofs.Keyed.{IsPlaced, placed_start, placed_kept, placed_passed, placed_end}
use Rattle.cacao_text.specs.declared.order.Key.{Key}
use Rattle.cacao_text.proofs.order.places.Goals as goal
use Rattle.cacao_text.proofs.order.places.Goals.{then-is_kept+in_ok-units+in_ok-insert_key, else-is_kept}

pub loop-place-init : goal.loop-place-init
loop-place-init c = placed_start c.args.unsigned c.args.pairs.now c.new-order.result.entries c.new-order.ensures.empty

pub loop-place-preserved : goal.loop-place-preserved
loop-place-preserved c =
    let u = c.args.unsigned in
    let ps = c.args.pairs.now in
    let i = c.loop-place.place in
    let p = c.index-pairs-place.result in
    let same : c.text-name.result.now ≡ (pair_data p).0 = c.text-name.ensures in
    let stays : c.is_kept.result ≡ is_kept u (pair_data p).0 = c.is_kept.ensures ∙ ap (is_kept u) same in
    elim c.if-is_kept.branch [
      | then-is_kept+in_ok-units+in_ok-insert_key w ↦
          let k : Key = record { units = w.in_ok-units.units; place = i } in
          placed_kept u ps i p k c.loop-place.order.entries c.if-is_kept.order.entries c.loop-place-test.true c.index-pairs-place.is (sym stays ∙ w.if-is_kept.true) (w.in_ok-units.ensures ∙ ap units same) refl
          (ap (λ o. o.entries) w.order-is ∙ w.in_ok-insert_key.ensures) c.loop-place.invariant
      | else-is_kept w ↦
          subst (λ o. IsPlaced u ps (i + 1) o.entries) (sym w.order-is) (placed_passed u ps i p c.loop-place.order.entries c.loop-place-test.true c.index-pairs-place.is (sym stays ∙ w.if-is_kept.false) c.loop-place.invariant)
    ]

pub returns : goal.returns
returns c =
    let ps = c.args.pairs.now in
    let u = c.args.unsigned in
    let same = placed_end u ps c.loop-place.place c.loop-place.order.entries c.loop-place-test.false c.loop-place.invariant in
    (subst (λ js. IfOk c.places_in_map.result (λ list. list.items ≡ js)) same c.places_in_map.ensures)
