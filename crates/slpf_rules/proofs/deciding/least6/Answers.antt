use Rattle.std.proofs.Common.{◌≡◌, ◌+◌, ◌*◌, ap, ◌∙◌, arith}
use Rattle.oc2_nets.specs.declared.packets.Address.TheVariants as kind
use Rattle.slpf_rules.specs.Deciding.{smallest, decides_below}
use Rattle.slpf_rules.specs.Picking.{picked}
use Rattle.slpf_rules.proofs.NetWidths.{holds_below-all6}
use Rattle.slpf_rules.proofs.Deciders.{decides_below-zero, decides_below-all}
use Rattle.slpf_rules.proofs.deciding.least6.Goals as goal

pub loop-block-init : goal.loop-block-init
loop-block-init c = λ net_of h rising covered.
    let q = c.args.query.now in
    ap (picked q.rules.now) (decides_below-zero net_of q.rules.now q.packet.now q.moment (kind.V6 c.args.address))

pub loop-block-preserved : goal.loop-block-preserved
loop-block-preserved c = λ net_of h rising covered.
    let q = c.args.query.now in
    let next : c.loop-block.block * 16 + 16 ≡ (c.loop-block.block + 1) * 16 = omega arith in
    c.block6-best.ensures net_of h rising covered (c.loop-block.invariant net_of h rising covered)
    ∙ ap (λ n. picked q.rules.now (smallest (decides_below net_of n (kind.V6 c.args.address) q.packet.now q.moment) q.rules.now)) next

pub returns : goal.returns
returns c = λ net_of h rising covered.
    let q = c.args.query.now in
    let width : c.loop-block.block * 16 ≡ 128 = omega arith in
    c.more6.ensures net_of h rising covered
    (c.loop-block.invariant net_of h rising covered
    ∙ ap (λ n. picked q.rules.now (smallest (decides_below net_of n (kind.V6 c.args.address) q.packet.now q.moment) q.rules.now)) width)
    ∙ ap (picked q.rules.now) (decides_below-all net_of q.rules.now q.packet.now q.moment (kind.V6 c.args.address) 129 (holds_below-all6 c.args.address))
