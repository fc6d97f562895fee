-- Promise: The family of an address.
use Rattle.std.specs.Prelude.{Bool, true, false}
use Rattle.oc2_nets.specs.declared.packets.Address.{Address}
use Rattle.oc2_nets.specs.declared.packets.Address.TheVariants.{V4, V6}

-- whether an address is an IPv4 address
abbrev pub is_v4 : Address → Bool
is_v4 (V4 bits) = true
is_v4 (V6 bits) = false
