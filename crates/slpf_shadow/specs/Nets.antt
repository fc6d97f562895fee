-- Scaffold: Nets of either family by one test.
use Rattle.std.specs.Prelude.{ℕ, Bool, ◌&&◌, nat_le}
use Rattle.oc2_nets.specs.declared.packets.Address.{Address}
use Rattle.oc2_nets.specs.declared.packets.Address.TheVariants as address
use Rattle.oc2_nets.specs.Nets.{net4, net6}
use Rattle.slpf_rules.specs.declared.any_nets.AnyNet.{AnyNet}
use Rattle.slpf_rules.specs.declared.any_nets.AnyNet.TheVariants.{V4, V6}
use Rattle.slpf_rules.specs.AnyNets.{width}
use Rattle.slpf_rules.specs.Deciding.{lies_in}

-- how many bits an address of the family has
abbrev pub length_of : Address → ℕ
length_of (address.V4 bits) = 32
length_of (address.V6 bits) = 128

-- the first address of a net
abbrev pub first_address : AnyNet → Address
first_address (V4 net) = address.V4 net.bits
first_address (V6 net) = address.V6 net.bits

-- the net of this width round an address
abbrev pub net_at : Address → ℕ → AnyNet
net_at (address.V4 bits) width = V4 (net4 bits width)
net_at (address.V6 bits) width = V6 (net6 bits width)

-- all addresses of a net's family
abbrev pub whole_family : AnyNet → AnyNet
whole_family (V4 net) = V4 (net4 0 0)
whole_family (V6 net) = V6 (net6 0 0)

-- whether each address of a net lies in another
abbrev pub net_within : AnyNet → AnyNet → Bool
net_within inner outer = nat_le (width outer) (width inner) && lies_in (first_address inner) outer
