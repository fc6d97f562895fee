-- Scaffold: Connections of either family. A net that is not stated is that of all addresses.
use Rattle.std.specs.Prelude.{ℕ, Bool, true, false, ◌==◌, ◌&&◌, ◌||◌, Option, Some, None, is_some}
use Rattle.oc2_nets.specs.declared.packets.Protocol.{Protocol}
use Rattle.oc2_nets.specs.Flows.{is_protocol}
use Rattle.oc2_nets.specs.Packets.{is_icmp}
use Rattle.slpf_rules.specs.declared.any_nets.AnyNet.{AnyNet}
use Rattle.slpf_shadow.specs.declared.connections.Connection.{Connection}
use Rattle.slpf_shadow.specs.Nets.{whole_family, net_within}

-- whether icmp is stated
abbrev pub is_of_icmp : Option Protocol → Bool
is_of_icmp None = false
is_of_icmp (Some protocol) = is_icmp protocol

-- whether no packet agrees: icmp is stated, and a port, which no packet of icmp has
abbrev pub is_empty : Connection → Bool
is_empty c = is_of_icmp c.protocol && (is_some c.source_port || is_some c.destination_port)

abbrev pub protocol_within : Option Protocol → Option Protocol → Bool
protocol_within inner None = true
protocol_within None (Some outer) = false
protocol_within (Some inner) (Some outer) = is_protocol inner outer

abbrev pub port_within : Option ℕ → Option ℕ → Bool
port_within inner None = true
port_within None (Some outer) = false
port_within (Some inner) (Some outer) = inner == outer

-- whether each part is within that of the outer connection
abbrev pub connection_within : Connection → Connection → Bool
connection_within inner outer =
    protocol_within inner.protocol outer.protocol
    && net_within inner.source outer.source
    && port_within inner.source_port outer.source_port
    && net_within inner.destination outer.destination
    && port_within inner.destination_port outer.destination_port

-- from a net to anywhere
abbrev pub from_net : AnyNet → Connection
from_net net = record {
  protocol = None;
  source = net;
  source_port = None;
  destination = whole_family net;
  destination_port = None;
}

-- from anywhere to a net
abbrev pub to_net : AnyNet → Connection
to_net net = record {
  protocol = None;
  source = whole_family net;
  source_port = None;
  destination = net;
  destination_port = None;
}
