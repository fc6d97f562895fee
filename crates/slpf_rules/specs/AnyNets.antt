-- Promise: Nets of either family, and their order.
use Rattle.std.specs.Prelude.{ℕ}
use Rattle.std.specs.Ordering.{nat_cmp, on, then_cmp}
use Rattle.std.specs.declared.cmp.Ordering.{Ordering}
use Rattle.slpf_rules.specs.declared.any_nets.AnyNet.{AnyNet}
use Rattle.slpf_rules.specs.declared.any_nets.AnyNet.TheVariants.{V4, V6}

-- the version of the family
abbrev pub family : AnyNet → ℕ
family (V4 net) = 4
family (V6 net) = 6

-- the address, host bits cleared
abbrev pub bits : AnyNet → ℕ
bits (V4 net) = net.bits
bits (V6 net) = net.bits

-- how many bits count
abbrev pub width : AnyNet → ℕ
width (V4 net) = net.width
width (V6 net) = net.width

-- by family, by address, and by width
abbrev pub net_cmp : AnyNet → AnyNet → Ordering
net_cmp = then_cmp (on family nat_cmp) (then_cmp (on bits nat_cmp) (on width nat_cmp))
