-- Promise: Packets, and their lines.
use Rattle.std.specs.Prelude.{ℕ, Bool, true, false, ◌&&◌, List, [], ◌∷◌, Option, Some, None, option_map, bytes_eq, codes, if◌then◌else◌, refl}
use Rattle.oc2_nets.specs.declared.packets.Protocol.{Protocol}
use Rattle.oc2_nets.specs.declared.packets.Protocol.TheVariants.{Icmp, Tcp, Udp, Sctp}
use Rattle.oc2_nets.specs.declared.packets.Address.{Address}
use Rattle.oc2_nets.specs.declared.packets.Address.TheVariants.{V4, V6}
use Rattle.oc2_nets.specs.declared.packets.Packet.{Packet}
use Rattle.oc2_nets.specs.Texts.{◌>>=◌, space, parts}
use Rattle.base_decimals.specs.Numbers.{number}
use Rattle.oc2_nets.specs.Ipv4.{address4}
use Rattle.oc2_nets.specs.Ipv6.{address6}

-- whether a packet goes out
abbrev pub outward_of : List ℕ → Option Bool
outward_of text =
    if bytes_eq text (codes "egress") then Some true
    else (if bytes_eq text (codes "ingress") then Some false else None)

-- a protocol by its name
abbrev pub protocol_of : List ℕ → Option Protocol
protocol_of text =
    if bytes_eq text (codes "icmp") then Some Icmp
    else (if bytes_eq text (codes "tcp") then Some Tcp
    else (if bytes_eq text (codes "udp") then Some Udp
    else (if bytes_eq text (codes "sctp") then Some Sctp else None)))

-- the name of a protocol
abbrev pub protocol_word : Protocol → List ℕ
protocol_word Icmp = codes "icmp"
protocol_word Tcp = codes "tcp"
protocol_word Udp = codes "udp"
protocol_word Sctp = codes "sctp"

abbrev pub is_icmp : Protocol → Bool
is_icmp Icmp = true
is_icmp Tcp = false
is_icmp Udp = false
is_icmp Sctp = false

-- a port from 0 to 65,535, or for icmp `-`, which is kept as 0
abbrev pub port_of : Protocol → List ℕ → Option ℕ
port_of protocol text =
    if is_icmp protocol && bytes_eq text (codes "-") then Some 0 else number 65_535 text

-- an address of either family, without a width
abbrev pub either : Option ℕ → Option ℕ → Option Address
either (Some bits) other = Some (V4 bits)
either None other = option_map V6 other

abbrev pub address_of : List ℕ → Option Address
address_of text = either (address4 text) (address6 text)

-- the packet with these addresses, if they are of one family
abbrev pub packet : Bool → Protocol → ℕ → ℕ → Address → Address → Option Packet
packet outward protocol from_port to_port (V4 a) (V4 b) = Some (record {
  outward = outward;
  protocol = protocol;
  from = V4 a;
  from_port = from_port;
  to = V4 b;
  to_port = to_port;
  same_family = refl;
})
packet outward protocol from_port to_port (V6 a) (V6 b) = Some (record {
  outward = outward;
  protocol = protocol;
  from = V6 a;
  from_port = from_port;
  to = V6 b;
  to_port = to_port;
  same_family = refl;
})
packet outward protocol from_port to_port (V4 a) (V6 b) = None
packet outward protocol from_port to_port (V6 a) (V4 b) = None

-- MOMENT DIRECTION PROTOCOL SOURCE PORT DESTINATION PORT
abbrev pub packet_at : List (List ℕ) → Option (ℕ × Packet)
packet_at (at ∷ direction ∷ name ∷ source ∷ source_port ∷ target ∷ target_port ∷ []) = do
  moment ← number 9_000_000_000_000_000 at
  outward ← outward_of direction
  protocol ← protocol_of name
  from_port ← port_of protocol source_port
  to_port ← port_of protocol target_port
  from ← address_of source
  to ← address_of target
  found ← packet outward protocol from_port to_port from to
  Some (moment, found)
packet_at _ = None

-- the moment and the packet of a line: seven words with one space between each two
unfoldable pub packet_of : List ℕ → Option (ℕ × Packet)
packet_of line = packet_at (parts space line)
