use Rattle.std.proofs.Common.{◌≡◌, ◌+◌, ◌*◌, ◌≤◌, refl, ap, ◌∙◌, arith}
use Rattle.oc2_nets.specs.declared.packets.Address.TheVariants as kind
use Rattle.slpf_rules.specs.Deciding.{smallest, decides_below}
use Rattle.slpf_rules.specs.Picking.{picked}
use Rattle.slpf_rules.specs.declared.any_nets.AnyNet.TheVariants.{V6}
use Rattle.oc2_nets.specs.Nets.{net6}
use Rattle.slpf_rules.proofs.BlockLemmas.{picked-skip}
use Rattle.slpf_rules.proofs.deciding.block6.Goals as goal

pub returns-then-not-has : goal.returns-then-not-has
returns-then-not-has c = λ net_of h rising covered is.
    let q = c.args.query.now in
    let low = c.args.block * 16 in
    let fits : low + 16 ≤ 129 = omega arith in
    picked-skip net_of q.rules.now c.args.side.now.index q.packet.now q.moment c.args.address c.args.best 16 low (low + 16) refl fits
    (λ n ge lt. let small : n ≤ 128 = omega arith in
    h.blocks (V6 (net6 c.args.address n)) (c.if-not-has.ensures c.args.address n ge lt small)) h.indexed rising is

pub loop-width-init : goal.loop-width-init
loop-width-init c = λ net_of h rising covered is. is

pub loop-width-preserved : goal.loop-width-preserved
loop-width-preserved c = λ net_of h rising covered is. c.more6-most.ensures net_of h rising covered (c.loop-width.invariant net_of h rising covered is)

pub returns : goal.returns
returns c = λ net_of h rising covered is.
    let q = c.args.query.now in
    let width : c.loop-width.width ≡ c.args.block * 16 + 16 = omega arith in
    c.loop-width.invariant net_of h rising covered is
    ∙ ap (λ n. picked q.rules.now (smallest (decides_below net_of n (kind.V6 c.args.address) q.packet.now q.moment) q.rules.now)) width
