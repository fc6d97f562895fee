-- Promise: What packets there are.
use Rattle.std.specs.Prelude.{◌<◌, ◌≤◌, ◌^◌, IsTrue}
use Rattle.oc2_nets.specs.declared.flows.Flow.{Flow}
use Rattle.oc2_nets.specs.declared.packets.Address.{Address}
use Rattle.oc2_nets.specs.declared.packets.Address.TheVariants.{V4, V6}
use Rattle.oc2_nets.specs.declared.packets.Packet.{Packet}
use Rattle.oc2_nets.specs.Flows.{covers}

-- an address has 32 or 128 bits
abbrev pub IsAddress : Address → Type 0
IsAddress (V4 bits) = bits < 2 ^ 32
IsAddress (V6 bits) = bits < 2 ^ 128

-- both addresses and both ports of a packet fit; that the addresses are of one family is part of each packet
pub record IsPacket (packet : Packet) : Type 0 where
  pub source : IsAddress packet.from
  pub source_port : packet.from_port ≤ 65_535
  pub destination : IsAddress packet.to
  pub destination_port : packet.to_port ≤ 65_535

-- each packet that the inner flow covers is covered by the outer one
abbrev pub IsWithin : Flow → Flow → Type 0
IsWithin inner outer = (packet : Packet) → IsPacket packet → IsTrue (covers inner packet) → IsTrue (covers outer packet)
