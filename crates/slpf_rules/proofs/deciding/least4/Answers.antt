use Rattle.std.proofs.Common.{◌≡◌, ap, ◌∙◌, arith}
use Rattle.oc2_nets.specs.declared.packets.Address.TheVariants as kind
use Rattle.slpf_rules.specs.Deciding.{smallest, decides_below}
use Rattle.slpf_rules.specs.Picking.{picked}
use Rattle.slpf_rules.proofs.NetWidths.{holds_below-all4}
use Rattle.slpf_rules.proofs.Deciders.{decides_below-zero, decides_below-all}
use Rattle.slpf_rules.proofs.deciding.least4.Goals as goal

pub loop-width-init : goal.loop-width-init
loop-width-init c = λ net_of h rising covered.
    let q = c.args.query.now in
    ap (picked q.rules.now) (decides_below-zero net_of q.rules.now q.packet.now q.moment (kind.V4 c.args.address))

pub returns : goal.returns
returns c = λ net_of h rising covered.
    let q = c.args.query.now in
    let width : c.loop-width.width ≡ 33 = omega arith in
    c.loop-width.invariant net_of h rising covered
    ∙ ap (λ n. picked q.rules.now (smallest (decides_below net_of n (kind.V4 c.args.address) q.packet.now q.moment) q.rules.now)) width
    ∙ ap (picked q.rules.now) (decides_below-all net_of q.rules.now q.packet.now q.moment (kind.V4 c.args.address) 33 (holds_below-all4 c.args.address))
