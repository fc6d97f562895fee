use Rattle.std.proofs.Common.{◌≡◌, ◌*◌, Option}
use Rattle.oc2_nets.specs.declared.flows.Flow.{Flow}
use Rattle.oc2_nets.specs.declared.packets.Address.TheVariants as kind
use Rattle.slpf_rules.specs.declared.any_nets.AnyNet.{AnyNet}
use Rattle.slpf_rules.specs.Order.{IsRising}
use Rattle.slpf_rules.specs.Filing.{IsSide}
use Rattle.slpf_rules.specs.Deciding.{smallest, decides_below}
use Rattle.slpf_rules.specs.Picking.{picked, NetsCover}
use Rattle.slpf_rules.proofs.deciding.block6.Given as goal

abbrev pub invariant-loop-width : goal.invariant-loop-width
invariant-loop-width l =
    (net_of : Flow → Option AnyNet) → IsSide net_of l.query.rules.now l.side → IsRising l.query.rules.now
    → NetsCover net_of (kind.V6 l.address) l.query.packet.now
    → l.fn.best ≡ picked l.query.rules.now (smallest (decides_below net_of (l.block * 16) (kind.V6 l.address) l.query.packet.now l.query.moment) l.query.rules.now)
    → l.most ≡ picked l.query.rules.now (smallest (decides_below net_of l.width (kind.V6 l.address) l.query.packet.now l.query.moment) l.query.rules.now)
