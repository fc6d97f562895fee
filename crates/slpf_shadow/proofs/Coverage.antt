-- Which packets the two shapes take.
use Rattle.std.proofs.Common.{◌≡◌, ℕ, ◌^◌, Bool, true, false, not, ◌&&◌, ◌||◌, Option, Some, None, is_some, refl, sym, ap, ap₂, subst, ◌∙◌, inl, inr}
use Rattle.std.proofs.lemmas.Bool.{eq-eqb, eqb-true, and_parts, and_from, or_cases, or_left, or_right, false≢true}
use Rattle.oc2_nets.specs.declared.flows.Flow.{Flow}
use Rattle.oc2_nets.specs.declared.flows.Flow.TheVariants as flow
use Rattle.oc2_nets.specs.declared.ipv4_nets.Net4.{Net4}
use Rattle.oc2_nets.specs.declared.ipv6_nets.Net6.{Net6}
use Rattle.oc2_nets.specs.declared.packets.Address.{Address}
use Rattle.oc2_nets.specs.declared.packets.Address.TheVariants as address
use Rattle.oc2_nets.specs.declared.packets.Packet.{Packet}
use Rattle.oc2_nets.specs.declared.packets.Protocol.{Protocol}
use Rattle.oc2_nets.specs.declared.packets.Protocol.TheVariants.{Icmp, Tcp, Udp, Sctp}
use Rattle.oc2_nets.specs.Families.{is_v4}
use Rattle.oc2_nets.specs.Flows.{agrees, has_port, is_protocol, covers}
use Rattle.oc2_nets.specs.Nets.{lies4, lies6}
use Rattle.slpf_rules.specs.declared.any_nets.AnyNet.{AnyNet}
use Rattle.slpf_rules.specs.Deciding.{lies_in}
use Rattle.slpf_shadow.specs.declared.connections.Connection.{Connection}
use Rattle.slpf_shadow.specs.declared.shapes.Shape.{Shape}
use Rattle.slpf_shadow.specs.declared.shapes.Shape.TheVariants.{Net, Parts}
use Rattle.slpf_shadow.specs.Packets.{IsAddress, IsPacket}
use Rattle.slpf_shadow.specs.Nets.{net_within}
use Rattle.slpf_shadow.specs.Connections.{is_of_icmp, is_empty, protocol_within, port_within, connection_within, from_net, to_net}
use Rattle.slpf_shadow.specs.Shapes.{either4, either6, shape, has_no_packet, shape_within}
use Rattle.slpf_shadow.proofs.NetLemmas.{below_all, net_within-sound, family_of, whole_lies}

-- whether every part agrees with a packet
abbrev pub takes : Connection → Packet → Bool
takes c packet =
    agrees (is_protocol packet.protocol) c.protocol
    && lies_in packet.from c.source
    && agrees (has_port packet.protocol packet.from_port) c.source_port
    && lies_in packet.to c.destination
    && agrees (has_port packet.protocol packet.to_port) c.destination_port

-- whether a packet is of this shape
abbrev pub has_shape : Shape → Packet → Bool
has_shape (Net net) packet = lies_in packet.from net || lies_in packet.to net
has_shape (Parts c) packet = takes c packet

-- ---- a flow covers the packets of its shape

lies_either4 : (a : Address) (net : Option Net4) → IsAddress a → lies_in a (either4 net) ≡ (is_v4 a && agrees (λ n. lies4 n a) net)
lies_either4 (address.V4 x) None fits = eq-eqb _ _ (below_all x (2 ^ 32) fits)
lies_either4 (address.V4 x) (Some net) fits = refl
lies_either4 (address.V6 x) None fits = refl
lies_either4 (address.V6 x) (Some net) fits = refl

lies_either6 : (a : Address) (net : Option Net6) → IsAddress a → lies_in a (either6 net) ≡ (not (is_v4 a) && agrees (λ n. lies6 n a) net)
lies_either6 (address.V6 x) None fits = eq-eqb _ _ (below_all x (2 ^ 128) fits)
lies_either6 (address.V6 x) (Some net) fits = refl
lies_either6 (address.V4 x) None fits = refl
lies_either6 (address.V4 x) (Some net) fits = refl

same_order : (v p s sp d dp : Bool) → (v && p && s && sp && d && dp) ≡ (p && (v && s) && sp && (v && d) && dp)
same_order true p s sp d dp = refl
same_order false true s sp d dp = refl
same_order false false s sp d dp = refl

pub covers-shape : (f : Flow) (packet : Packet) → IsPacket packet → covers f packet ≡ has_shape (shape f) packet
covers-shape (flow.Net4 net) packet real = refl
covers-shape (flow.Net6 net) packet real = refl
covers-shape (flow.Conn4 protocol src src_port dst dst_port) packet real =
    let p = agrees (is_protocol packet.protocol) protocol in
    let sp = agrees (has_port packet.protocol packet.from_port) src_port in
    let dp = agrees (has_port packet.protocol packet.to_port) dst_port in
    same_order (is_v4 packet.from) p (agrees (λ n. lies4 n packet.from) src) sp (agrees (λ n. lies4 n packet.to) dst) dp
    ∙ ap₂ (λ x y. p && x && sp && y && dp) (sym (lies_either4 packet.from src real.source))
    (ap (λ v. v && agrees (λ n. lies4 n packet.to) dst) packet.same_family ∙ sym (lies_either4 packet.to dst real.destination))
covers-shape (flow.Conn6 protocol src src_port dst dst_port) packet real =
    let p = agrees (is_protocol packet.protocol) protocol in
    let sp = agrees (has_port packet.protocol packet.from_port) src_port in
    let dp = agrees (has_port packet.protocol packet.to_port) dst_port in
    same_order (not (is_v4 packet.from)) p (agrees (λ n. lies6 n packet.from) src) sp (agrees (λ n. lies6 n packet.to) dst) dp
    ∙ ap₂ (λ x y. p && x && sp && y && dp) (sym (lies_either6 packet.from src real.source))
    (ap (λ v. not v && agrees (λ n. lies6 n packet.to) dst) packet.same_family ∙ sym (lies_either6 packet.to dst real.destination))

-- ---- the parts of what a connection takes

pub record Taken (c : Connection) (packet : Packet) : Type 0 where
  pub protocol : agrees (is_protocol packet.protocol) c.protocol ≡ true
  pub source : lies_in packet.from c.source ≡ true
  pub source_port : agrees (has_port packet.protocol packet.from_port) c.source_port ≡ true
  pub destination : lies_in packet.to c.destination ≡ true
  pub destination_port : agrees (has_port packet.protocol packet.to_port) c.destination_port ≡ true

pub taken : (c : Connection) (packet : Packet) → takes c packet ≡ true → Taken c packet
taken c packet h =
    let e = and_parts _ _ h in
    let d = and_parts _ _ e.0 in
    let s = and_parts _ _ d.0 in
    let p = and_parts _ _ s.0 in
    record { protocol = p.0; source = p.1; source_port = s.1; destination = d.1; destination_port = e.1 }

pub takes_all : (c : Connection) (packet : Packet) → Taken c packet → takes c packet ≡ true
takes_all c packet h =
    and_from _ _ (and_from _ _ (and_from _ _ (and_from _ _ h.protocol h.source) h.source_port) h.destination) h.destination_port

pub record Within (inner outer : Connection) : Type 0 where
  pub protocol : protocol_within inner.protocol outer.protocol ≡ true
  pub source : net_within inner.source outer.source ≡ true
  pub source_port : port_within inner.source_port outer.source_port ≡ true
  pub destination : net_within inner.destination outer.destination ≡ true
  pub destination_port : port_within inner.destination_port outer.destination_port ≡ true

pub within : (inner outer : Connection) → connection_within inner outer ≡ true → Within inner outer
within inner outer h =
    let e = and_parts _ _ h in
    let d = and_parts _ _ e.0 in
    let s = and_parts _ _ d.0 in
    let p = and_parts _ _ s.0 in
    record { protocol = p.0; source = p.1; source_port = s.1; destination = d.1; destination_port = e.1 }

-- ---- what is within is taken

pub same_protocol : (a b : Protocol) → is_protocol a b ≡ true → a ≡ b
same_protocol Icmp Icmp h = refl
same_protocol Tcp Tcp h = refl
same_protocol Udp Udp h = refl
same_protocol Sctp Sctp h = refl
same_protocol Icmp Tcp h = cc
same_protocol Icmp Udp h = cc
same_protocol Icmp Sctp h = cc
same_protocol Tcp Icmp h = cc
same_protocol Tcp Udp h = cc
same_protocol Tcp Sctp h = cc
same_protocol Udp Icmp h = cc
same_protocol Udp Tcp h = cc
same_protocol Udp Sctp h = cc
same_protocol Sctp Icmp h = cc
same_protocol Sctp Tcp h = cc
same_protocol Sctp Udp h = cc

protocol_agrees : (x : Protocol) (inner outer : Option Protocol) → protocol_within inner outer ≡ true → agrees (is_protocol x) inner ≡ true → agrees (is_protocol x) outer ≡ true
protocol_agrees x inner None h w = refl
protocol_agrees x None (Some outer) h w = cc
protocol_agrees x (Some inner) (Some outer) h w = subst (λ q. is_protocol x q ≡ true) (same_protocol inner outer h) w

port_agrees : (x : Protocol) (port : ℕ) (inner outer : Option ℕ) → port_within inner outer ≡ true → agrees (has_port x port) inner ≡ true → agrees (has_port x port) outer ≡ true
port_agrees x port inner None h w = refl
port_agrees x port None (Some outer) h w = cc
port_agrees x port (Some inner) (Some outer) h w = subst (λ q. has_port x port q ≡ true) (eqb-true inner outer h) w

connection_within-sound : (inner outer : Connection) (packet : Packet) → connection_within inner outer ≡ true → takes inner packet ≡ true → takes outer packet ≡ true
connection_within-sound inner outer packet h w =
    let parts = within inner outer h in
    let t = taken inner packet w in
    takes_all outer packet (record {
      protocol = protocol_agrees packet.protocol inner.protocol outer.protocol parts.protocol t.protocol;
      source = net_within-sound inner.source outer.source packet.from parts.source t.source;
      source_port = port_agrees packet.protocol packet.from_port inner.source_port outer.source_port parts.source_port t.source_port;
      destination = net_within-sound inner.destination outer.destination packet.to parts.destination t.destination;
      destination_port = port_agrees packet.protocol packet.to_port inner.destination_port outer.destination_port parts.destination_port t.destination_port;
    })

icmp_port : (port : ℕ) (stated : Option ℕ) → is_some stated ≡ true → agrees (has_port Icmp port) stated ≡ true → false ≡ true
icmp_port port None h w = h
icmp_port port (Some p) h w = w

is_icmp_stated : (x : Protocol) (stated : Option Protocol) → is_of_icmp stated ≡ true → agrees (is_protocol x) stated ≡ true → x ≡ Icmp
is_icmp_stated x None h w = cc
is_icmp_stated x (Some Icmp) h w = same_protocol x Icmp w
is_icmp_stated x (Some Tcp) h w = cc
is_icmp_stated x (Some Udp) h w = cc
is_icmp_stated x (Some Sctp) h w = cc

-- an empty connection takes no packet
pub empty_takes : (c : Connection) (packet : Packet) → is_empty c ≡ true → takes c packet ≡ true → false ≡ true
empty_takes c packet h w =
    let t = taken c packet w in
    let e = and_parts _ _ h in
    let icmp = is_icmp_stated packet.protocol c.protocol e.0 t.protocol in
    elim (or_cases _ _ e.1) [
      | inl source ↦ icmp_port packet.from_port c.source_port source (subst (λ x. agrees (has_port x packet.from_port) c.source_port ≡ true) icmp t.source_port)
      | inr destination ↦ icmp_port packet.to_port c.destination_port destination (subst (λ x. agrees (has_port x packet.to_port) c.destination_port ≡ true) icmp t.destination_port)
    ]

from_net_takes : (net : AnyNet) (packet : Packet) → IsPacket packet → lies_in packet.from net ≡ true → takes (from_net net) packet ≡ true
from_net_takes net packet real h =
    takes_all (from_net net) packet (record {
      protocol = refl;
      source = h;
      source_port = refl;
      destination = whole_lies packet.to net real.destination (sym packet.same_family ∙ family_of packet.from net h);
      destination_port = refl;
    })

to_net_takes : (net : AnyNet) (packet : Packet) → IsPacket packet → lies_in packet.to net ≡ true → takes (to_net net) packet ≡ true
to_net_takes net packet real h =
    takes_all (to_net net) packet (record {
      protocol = refl;
      source = whole_lies packet.from net real.source (packet.same_family ∙ family_of packet.to net h);
      source_port = refl;
      destination = h;
      destination_port = refl;
    })

pub shape_within-sound : (inner outer : Shape) (packet : Packet) → IsPacket packet → shape_within inner outer ≡ true → has_shape inner packet ≡ true → has_shape outer packet ≡ true
shape_within-sound (Net inner) (Net outer) packet real h w =
    elim (or_cases _ _ w) [
      | inl source ↦ or_left _ _ (net_within-sound inner outer packet.from h source)
      | inr destination ↦ or_right _ _ (net_within-sound inner outer packet.to h destination)
    ]
shape_within-sound (Net inner) (Parts outer) packet real h w =
    let parts = and_parts _ _ h in
    elim (or_cases _ _ w) [
      | inl source ↦ connection_within-sound (from_net inner) outer packet parts.0 (from_net_takes inner packet real source)
      | inr destination ↦ connection_within-sound (to_net inner) outer packet parts.1 (to_net_takes inner packet real destination)
    ]
shape_within-sound (Parts inner) (Net outer) packet real h w =
    let t = taken inner packet w in
    elim (or_cases _ _ h) [
      | inl empty ↦ absurd (false≢true (empty_takes inner packet empty w))
      | inr ends ↦
          elim (or_cases _ _ ends) [
            | inl source ↦ or_left _ _ (net_within-sound inner.source outer packet.from source t.source)
            | inr destination ↦ or_right _ _ (net_within-sound inner.destination outer packet.to destination t.destination)
          ]
    ]
shape_within-sound (Parts inner) (Parts outer) packet real h w =
    elim (or_cases _ _ h) [
      | inl empty ↦ absurd (false≢true (empty_takes inner packet empty w))
      | inr parts ↦ connection_within-sound inner outer packet parts w
    ]

pub no_packet : (s : Shape) (packet : Packet) → has_no_packet s ≡ true → has_shape s packet ≡ true → false ≡ true
no_packet (Net net) packet h w = h
no_packet (Parts c) packet h w = empty_takes c packet h w
