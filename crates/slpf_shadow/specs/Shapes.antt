-- Scaffold: Flows by two shapes, a net and a connection, of either family.
use Rattle.std.specs.Prelude.{Bool, false, ◌&&◌, ◌||◌, Option, Some, None}
use Rattle.oc2_nets.specs.declared.flows.Flow.{Flow}
use Rattle.oc2_nets.specs.declared.flows.Flow.TheVariants as flow
use Rattle.oc2_nets.specs.declared.ipv4_nets.Net4.{Net4}
use Rattle.oc2_nets.specs.declared.ipv6_nets.Net6.{Net6}
use Rattle.oc2_nets.specs.Nets.{net4, net6}
use Rattle.slpf_rules.specs.declared.any_nets.AnyNet.{AnyNet}
use Rattle.slpf_rules.specs.declared.any_nets.AnyNet.TheVariants.{V4, V6}
use Rattle.slpf_shadow.specs.declared.shapes.Shape.{Shape}
use Rattle.slpf_shadow.specs.declared.shapes.Shape.TheVariants.{Net, Parts}
use Rattle.slpf_shadow.specs.Connections.{is_empty, connection_within, from_net, to_net}
use Rattle.slpf_shadow.specs.Nets.{net_within}

-- the net, or all IPv4 addresses
abbrev pub either4 : Option Net4 → AnyNet
either4 None = V4 (net4 0 0)
either4 (Some net) = V4 net

-- the net, or all IPv6 addresses
abbrev pub either6 : Option Net6 → AnyNet
either6 None = V6 (net6 0 0)
either6 (Some net) = V6 net

abbrev pub shape : Flow → Shape
shape (flow.Net4 net) = Net (V4 net)
shape (flow.Net6 net) = Net (V6 net)
shape (flow.Conn4 protocol src src_port dst dst_port) = Parts (record {
  protocol = protocol;
  source = either4 src;
  source_port = src_port;
  destination = either4 dst;
  destination_port = dst_port;
})
shape (flow.Conn6 protocol src src_port dst dst_port) = Parts (record {
  protocol = protocol;
  source = either6 src;
  source_port = src_port;
  destination = either6 dst;
  destination_port = dst_port;
})

-- whether no packet has this shape
abbrev pub has_no_packet : Shape → Bool
has_no_packet (Net net) = false
has_no_packet (Parts c) = is_empty c

-- whether each packet of a shape is one of the outer shape
abbrev pub shape_within : Shape → Shape → Bool
shape_within (Net inner) (Net outer) = net_within inner outer
shape_within (Net inner) (Parts outer) =
    connection_within (from_net inner) outer && connection_within (to_net inner) outer
shape_within (Parts inner) (Net outer) =
    is_empty inner || (net_within inner.source outer || net_within inner.destination outer)
shape_within (Parts inner) (Parts outer) = is_empty inner || connection_within inner outer

abbrev pub flow_within : Flow → Flow → Bool
flow_within inner outer = shape_within (shape inner) (shape outer)

-- the net in which a packet's source, or its destination, lies
abbrev pub source_of : Shape → AnyNet
source_of (Net net) = net
source_of (Parts c) = c.source

abbrev pub destination_of : Shape → AnyNet
destination_of (Net net) = net
destination_of (Parts c) = c.destination
