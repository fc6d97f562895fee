use Rattle.std.proofs.Common.{◌≡◌, ◌≢◌, length, ap, ◌∙◌, Some, arith}
use Rattle.oc2_msg_targets.proofs.PartLemmas.{single-one, single-other}
use Rattle.oc2_msg_targets.proofs.parts.single.Goals as goal

pub returns-then-pairs-ne1 : goal.returns-then-pairs-ne1
returns-then-pairs-ne1 c =
    let other : length c.in_ok-pairs.pairs.now ≢ 1 = omega arith in
    single-other _ c.in_ok-pairs.pairs.now c.in_ok-pairs.ensures other

pub returns : goal.returns
returns c =
    let one : length c.in_ok-pairs.pairs.now ≡ 1 = omega arith in
    ap Some c.name_and_value.ensures ∙ single-one _ c.in_ok-pairs.pairs.now _ c.in_ok-pairs.ensures one c.index-pairs-0.is
