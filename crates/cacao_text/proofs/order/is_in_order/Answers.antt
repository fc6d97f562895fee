use Rattle.std.proofs.Common.{◌≡◌, sym, subst, rules}
use Rattle.std.proofs.lemmas.List.{drop_all}
use Rattle.cacao_json.specs.Tree.{pair_data}
use Rattle.cacao_text.proofs.Rising.{AreAscii, names, in_order_if_ascii, ascii_step}
use Rattle.cacao_text.proofs.order.is_in_order.Goals as goal

pub loop-pair-init : goal.loop-pair-init
loop-pair-init c = λ w. w

pub loop-pair-preserved : goal.loop-pair-preserved
loop-pair-preserved c =
    let p = c.pair-item.result in
    let same : c.text.result.now ≡ (pair_data p).0 = c.text.ensures in
    λ w. c.loop-pair.invariant (ascii_step c.text.result.now c.args.pairs.now c.loop-pair.pair-index p c.loop-pair-test.true c.pair-item.is same (search rules) w)

pub returns : goal.returns
returns c =
    let ps = c.args.pairs.now in
    let done = drop_all c.loop-pair.pair-index ps c.loop-pair-test.false in
    in_order_if_ascii ps c.requires (c.loop-pair.invariant (subst (λ qs. AreAscii (names qs)) (sym done) tt))
