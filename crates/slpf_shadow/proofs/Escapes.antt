-- For each part of a connection that is not within another, a packet that shows it.
use Rattle.std.proofs.Common.{◌≡◌, ℕ, zero, suc, ◌^◌, ◌<◌, ◌≤◌, Bool, true, false, not, ◌==◌, ◌&&◌, ◌||◌, Option, Some, None, is_some, unwrap_or, refl, sym, ap, ◌∙◌, arith, inl, inr}
use Rattle.std.proofs.lemmas.Bool.{eq-eqb, and_cases, and_left, and_right, or_from, or_left, or_right, or_parts}
use Rattle.oc2_nets.specs.declared.packets.Address.{Address}
use Rattle.oc2_nets.specs.declared.packets.Packet.{Packet}
use Rattle.oc2_nets.specs.declared.packets.Protocol.{Protocol}
use Rattle.oc2_nets.specs.declared.packets.Protocol.TheVariants.{Icmp, Tcp, Udp, Sctp}
use Rattle.oc2_nets.specs.Flows.{agrees, has_port, is_protocol}
use Rattle.oc2_nets.specs.Packets.{is_icmp}
use Rattle.slpf_rules.specs.declared.any_nets.AnyNet.{AnyNet}
use Rattle.slpf_rules.specs.declared.any_nets.AnyNet.TheVariants.{V4, V6}
use Rattle.slpf_rules.specs.Deciding.{lies_in}
use Rattle.slpf_rules.proofs.NumberTests.{apart_from}
use Rattle.slpf_shadow.specs.declared.connections.Connection.{Connection}
use Rattle.slpf_shadow.specs.declared.shapes.Shape.{Shape}
use Rattle.slpf_shadow.specs.declared.shapes.Shape.TheVariants.{Net, Parts}
use Rattle.slpf_shadow.specs.Packets.{IsAddress, IsPacket}
use Rattle.slpf_shadow.specs.Nets.{first_address, net_within}
use Rattle.slpf_shadow.specs.Connections.{is_of_icmp, is_empty, protocol_within, port_within, connection_within, from_net, to_net}
use Rattle.slpf_shadow.specs.Shapes.{has_no_packet, shape_within}
use Rattle.slpf_shadow.specs.Ranges.{IsPort, AreParts, IsInRange}
use Rattle.slpf_shadow.proofs.NetLemmas.{Leaves, first_lies, net_within-complete, family_of}
use Rattle.slpf_shadow.proofs.Coverage.{takes, has_shape, taken, takes_all}

-- a packet that passes one test and not the other
pub record Escapes (inner outer : Packet → Bool) : Type 0 where
  pub packet : Packet
  pub real : IsPacket packet
  pub inside : inner packet ≡ true
  pub outside : outer packet ≡ false

-- ---- the parts of a packet that a connection takes

-- a protocol and two ports that agree with a connection
pub record Choice (c : Connection) : Type 0 where
  pub protocol : Protocol
  pub source_port : ℕ
  pub destination_port : ℕ
  pub source_fits : source_port ≤ 65_535
  pub destination_fits : destination_port ≤ 65_535
  pub protocol_agrees : agrees (is_protocol protocol) c.protocol ≡ true
  pub source_agrees : agrees (has_port protocol source_port) c.source_port ≡ true
  pub destination_agrees : agrees (has_port protocol destination_port) c.destination_port ≡ true

-- two addresses of one family that lie in the nets of a connection
pub record Ends (c : Connection) : Type 0 where
  pub from : Address
  pub to : Address
  pub from_fits : IsAddress from
  pub to_fits : IsAddress to
  pub from_lies : lies_in from c.source ≡ true
  pub to_lies : lies_in to c.destination ≡ true

pub packet_of : (c : Connection) → AreParts c → Choice c → Ends c → Packet
packet_of c range choice ends = record {
  outward = true;
  protocol = choice.protocol;
  from = ends.from;
  from_port = choice.source_port;
  to = ends.to;
  to_port = choice.destination_port;
  same_family = family_of ends.from c.source ends.from_lies ∙ range.one_family ∙ sym (family_of ends.to c.destination ends.to_lies);
}

-- a packet with such parts shows what a test lets past
pub escape : (c : Connection) (range : AreParts c) (choice : Choice c) (ends : Ends c) (test : Packet → Bool) → test (packet_of c range choice ends) ≡ false → Escapes (takes c) test
unfolding packet_of
escape c range choice ends test out =
    let p = packet_of c range choice ends in
    record {
      packet = p;
      real = record { source = ends.from_fits; source_port = choice.source_fits; destination = ends.to_fits; destination_port = choice.destination_fits };
      inside = takes_all c p (record {
        protocol = choice.protocol_agrees;
        source = ends.from_lies;
        source_port = choice.source_agrees;
        destination = ends.to_lies;
        destination_port = choice.destination_agrees;
      });
      outside = out;
    }

-- ---- some packet of a connection that has one

abbrev pub some_protocol : Option Protocol → Protocol
some_protocol stated = unwrap_or stated Tcp

is_protocol-same : (x : Protocol) → is_protocol x x ≡ true
is_protocol-same Icmp = refl
is_protocol-same Tcp = refl
is_protocol-same Udp = refl
is_protocol-same Sctp = refl

some_protocol_agrees : (stated : Option Protocol) → agrees (is_protocol (some_protocol stated)) stated ≡ true
some_protocol_agrees None = refl
some_protocol_agrees (Some x) = is_protocol-same x

some_protocol_icmp : (stated : Option Protocol) → is_icmp (some_protocol stated) ≡ is_of_icmp stated
some_protocol_icmp None = refl
some_protocol_icmp (Some x) = refl

port_fits : (stated : Option ℕ) → IsPort stated → unwrap_or stated 0 ≤ 65_535
port_fits None h = omega arith
port_fits (Some port) h = h

stated_agrees : (x : Protocol) (stated : Option ℕ) → (is_icmp x && is_some stated) ≡ false → agrees (has_port x (unwrap_or stated 0)) stated ≡ true
stated_agrees x None h = refl
stated_agrees Icmp (Some port) h = cc
stated_agrees Tcp (Some port) h = eq-eqb port port refl
stated_agrees Udp (Some port) h = eq-eqb port port refl
stated_agrees Sctp (Some port) h = eq-eqb port port refl

one_of : (a b d : Bool) → (a && (b || d)) ≡ false → (a && b) ≡ false
one_of false b d h = refl
one_of true b d h = (or_parts b d h).0

other_of : (a b d : Bool) → (a && (b || d)) ≡ false → (a && d) ≡ false
other_of false b d h = refl
other_of true b d h = (or_parts b d h).1

-- a protocol that agrees and leaves room for the ports that are stated
pub choose : (c : Connection) → AreParts c → (x : Protocol) → agrees (is_protocol x) c.protocol ≡ true → (is_icmp x && (is_some c.source_port || is_some c.destination_port)) ≡ false → Choice c
choose c range x agree free = record {
  protocol = x;
  source_port = unwrap_or c.source_port 0;
  destination_port = unwrap_or c.destination_port 0;
  source_fits = port_fits c.source_port range.source_port;
  destination_fits = port_fits c.destination_port range.destination_port;
  protocol_agrees = agree;
  source_agrees = stated_agrees x c.source_port (one_of (is_icmp x) (is_some c.source_port) (is_some c.destination_port) free);
  destination_agrees = stated_agrees x c.destination_port (other_of (is_icmp x) (is_some c.source_port) (is_some c.destination_port) free);
}

room : (c : Connection) → is_empty c ≡ false → (is_icmp (some_protocol c.protocol) && (is_some c.source_port || is_some c.destination_port)) ≡ false
room c h = ap (λ b. b && (is_some c.source_port || is_some c.destination_port)) (some_protocol_icmp c.protocol) ∙ h

pub some_choice : (c : Connection) → AreParts c → is_empty c ≡ false → Choice c
some_choice c range h = choose c range (some_protocol c.protocol) (some_protocol_agrees c.protocol) (room c h)

pub first_ends : (c : Connection) → AreParts c → Ends c
first_ends c range = record {
  from = first_address c.source;
  to = first_address c.destination;
  from_fits = range.source;
  to_fits = range.destination;
  from_lies = first_lies c.source;
  to_lies = first_lies c.destination;
}

-- ---- a part that is not within

not_protocol : (c d : Connection) (packet : Packet) → agrees (is_protocol packet.protocol) d.protocol ≡ false → takes d packet ≡ false
not_protocol c d packet h = and_left _ _ (and_left _ _ (and_left _ _ (and_left _ _ h)))

not_source : (d : Connection) (packet : Packet) → lies_in packet.from d.source ≡ false → takes d packet ≡ false
not_source d packet h = and_left _ _ (and_left _ _ (and_left _ _ (and_right _ _ h)))

not_source_port : (d : Connection) (packet : Packet) → agrees (has_port packet.protocol packet.from_port) d.source_port ≡ false → takes d packet ≡ false
not_source_port d packet h = and_left _ _ (and_left _ _ (and_right _ _ h))

not_destination : (d : Connection) (packet : Packet) → lies_in packet.to d.destination ≡ false → takes d packet ≡ false
not_destination d packet h = and_left _ _ (and_right _ _ h)

not_destination_port : (d : Connection) (packet : Packet) → agrees (has_port packet.protocol packet.to_port) d.destination_port ≡ false → takes d packet ≡ false
not_destination_port d packet h = and_right _ _ h

-- a protocol that the inner connection has and the outer one has not
record Unlike (inner outer : Option Protocol) : Type 0 where
  other : Protocol
  agree : agrees (is_protocol other) inner ≡ true
  differ : agrees (is_protocol other) outer ≡ false
  icmp : is_icmp other ≡ is_of_icmp inner

unlike : (inner outer : Option Protocol) → protocol_within inner outer ≡ false → Unlike inner outer
unlike inner None h = cc
unlike None (Some Icmp) h = record { other = Tcp; agree = refl; differ = refl; icmp = refl }
unlike None (Some Tcp) h = record { other = Udp; agree = refl; differ = refl; icmp = refl }
unlike None (Some Udp) h = record { other = Tcp; agree = refl; differ = refl; icmp = refl }
unlike None (Some Sctp) h = record { other = Tcp; agree = refl; differ = refl; icmp = refl }
unlike (Some inner) (Some outer) h = record { other = inner; agree = is_protocol-same inner; differ = h; icmp = refl }

protocol_escapes : (c d : Connection) → AreParts c → is_empty c ≡ false → protocol_within c.protocol d.protocol ≡ false → Escapes (takes c) (takes d)
unfolding packet_of choose
protocol_escapes c d range full h =
    let u = unlike c.protocol d.protocol h in
    let free = ap (λ b. b && (is_some c.source_port || is_some c.destination_port)) u.icmp ∙ full in
    let choice = choose c range u.other u.agree free in
    escape c range choice (first_ends c range) (takes d) (not_protocol c d (packet_of c range choice (first_ends c range)) u.differ)

-- a port that the inner connection has and the outer one has not
record Elsewhere (inner outer : Option ℕ) : Type 0 where
  port : ℕ
  fits : port ≤ 65_535
  agree : (x : Protocol) → (is_icmp x && is_some inner) ≡ false → agrees (has_port x port) inner ≡ true
  differ : (x : Protocol) → agrees (has_port x port) outer ≡ false

elsewhere : (inner outer : Option ℕ) → IsPort inner → port_within inner outer ≡ false → Elsewhere inner outer
elsewhere inner None range h = cc
elsewhere None (Some zero) range h = record { port = 1; fits = omega arith; agree = λ x e. refl; differ = λ x. and_right (not (is_icmp x)) false refl }
elsewhere None (Some (suc n)) range h = record { port = 0; fits = omega arith; agree = λ x e. refl; differ = λ x. and_right (not (is_icmp x)) (0 == suc n) (apart_from 0 (suc n) (omega arith)) }
elsewhere (Some inner) (Some outer) range h = record { port = inner; fits = range; agree = λ x e. stated_agrees x (Some inner) e; differ = λ x. and_right (not (is_icmp x)) (inner == outer) h }

source_port_escapes : (c d : Connection) → AreParts c → is_empty c ≡ false → port_within c.source_port d.source_port ≡ false → Escapes (takes c) (takes d)
unfolding packet_of
source_port_escapes c d range full h =
    let other = elsewhere c.source_port d.source_port range.source_port h in
    let x = some_protocol c.protocol in
    let choice : Choice c = record {
      protocol = x;
      source_port = other.port;
      destination_port = unwrap_or c.destination_port 0;
      source_fits = other.fits;
      destination_fits = port_fits c.destination_port range.destination_port;
      protocol_agrees = some_protocol_agrees c.protocol;
      source_agrees = other.agree x (one_of (is_icmp x) (is_some c.source_port) (is_some c.destination_port) (room c full));
      destination_agrees = stated_agrees x c.destination_port (other_of (is_icmp x) (is_some c.source_port) (is_some c.destination_port) (room c full));
    } in
    escape c range choice (first_ends c range) (takes d) (not_source_port d (packet_of c range choice (first_ends c range)) (other.differ x))

destination_port_escapes : (c d : Connection) → AreParts c → is_empty c ≡ false → port_within c.destination_port d.destination_port ≡ false → Escapes (takes c) (takes d)
unfolding packet_of
destination_port_escapes c d range full h =
    let other = elsewhere c.destination_port d.destination_port range.destination_port h in
    let x = some_protocol c.protocol in
    let choice : Choice c = record {
      protocol = x;
      source_port = unwrap_or c.source_port 0;
      destination_port = other.port;
      source_fits = port_fits c.source_port range.source_port;
      destination_fits = other.fits;
      protocol_agrees = some_protocol_agrees c.protocol;
      source_agrees = stated_agrees x c.source_port (one_of (is_icmp x) (is_some c.source_port) (is_some c.destination_port) (room c full));
      destination_agrees = other.agree x (other_of (is_icmp x) (is_some c.source_port) (is_some c.destination_port) (room c full));
    } in
    escape c range choice (first_ends c range) (takes d) (not_destination_port d (packet_of c range choice (first_ends c range)) (other.differ x))

-- the ends of a connection, from elsewhere in its source's net
from_leaving : (c : Connection) → AreParts c → (net : AnyNet) → Leaves c.source net → Ends c
from_leaving c range net out = record {
  from = out.address;
  to = first_address c.destination;
  from_fits = out.fits;
  to_fits = range.destination;
  from_lies = out.inside;
  to_lies = first_lies c.destination;
}

to_leaving : (c : Connection) → AreParts c → (net : AnyNet) → Leaves c.destination net → Ends c
to_leaving c range net out = record {
  from = first_address c.source;
  to = out.address;
  from_fits = range.source;
  to_fits = out.fits;
  from_lies = first_lies c.source;
  to_lies = out.inside;
}

source_escapes : (c d : Connection) → AreParts c → is_empty c ≡ false → net_within c.source d.source ≡ false → Escapes (takes c) (takes d)
unfolding packet_of from_leaving
source_escapes c d range full h =
    let out = net_within-complete c.source d.source range.source h in
    let ends = from_leaving c range d.source out in
    let choice = some_choice c range full in
    escape c range choice ends (takes d) (not_source d (packet_of c range choice ends) out.outside)

destination_escapes : (c d : Connection) → AreParts c → is_empty c ≡ false → net_within c.destination d.destination ≡ false → Escapes (takes c) (takes d)
unfolding packet_of to_leaving
destination_escapes c d range full h =
    let out = net_within-complete c.destination d.destination range.destination h in
    let ends = to_leaving c range d.destination out in
    let choice = some_choice c range full in
    escape c range choice ends (takes d) (not_destination d (packet_of c range choice ends) out.outside)

-- ---- a connection that is not within

pub connection_escapes : (c d : Connection) → AreParts c → is_empty c ≡ false → connection_within c d ≡ false → Escapes (takes c) (takes d)
connection_escapes c d range full h =
    elim (and_cases _ _ h) [
      | inr destination_port ↦ destination_port_escapes c d range full destination_port
      | inl h4 ↦
          elim (and_cases _ _ h4) [
            | inr destination ↦ destination_escapes c d range full destination
            | inl h3 ↦
                elim (and_cases _ _ h3) [
                  | inr source_port ↦ source_port_escapes c d range full source_port
                  | inl h2 ↦
                      elim (and_cases _ _ h2) [
                        | inr source ↦ source_escapes c d range full source
                        | inl protocol ↦ protocol_escapes c d range full protocol
                      ]
                ]
          ]
    ]

-- a connection that is in no net by its source, nor by its destination
pub net_escapes : (c : Connection) (net : AnyNet) → AreParts c → is_empty c ≡ false → net_within c.source net ≡ false → net_within c.destination net ≡ false
    → Escapes (takes c) (λ packet. lies_in packet.from net || lies_in packet.to net)
unfolding packet_of
net_escapes c net range full source destination =
    let a = net_within-complete c.source net range.source source in
    let b = net_within-complete c.destination net range.destination destination in
    let ends : Ends c = record { from = a.address; to = b.address; from_fits = a.fits; to_fits = b.fits; from_lies = a.inside; to_lies = b.inside } in
    escape c range (some_choice c range full) ends (λ packet. lies_in packet.from net || lies_in packet.to net) (or_from _ _ a.outside b.outside)

zero4 : 0 < 2 ^ 32
zero4 = omega arith

zero6 : 0 < 2 ^ 128
zero6 = omega arith

from_net_parts : (net : AnyNet) → IsAddress (first_address net) → AreParts (from_net net)
from_net_parts (V4 net) h = record { source = h; source_port = tt; destination = zero4; destination_port = tt; one_family = refl }
from_net_parts (V6 net) h = record { source = h; source_port = tt; destination = zero6; destination_port = tt; one_family = refl }

to_net_parts : (net : AnyNet) → IsAddress (first_address net) → AreParts (to_net net)
to_net_parts (V4 net) h = record { source = zero4; source_port = tt; destination = h; destination_port = tt; one_family = refl }
to_net_parts (V6 net) h = record { source = zero6; source_port = tt; destination = h; destination_port = tt; one_family = refl }

-- a shape that is not within another
pub shape_escapes : (inner outer : Shape) → IsInRange inner → shape_within inner outer ≡ false → Escapes (has_shape inner) (has_shape outer)
shape_escapes (Net inner) (Net outer) range h =
    let out = net_within-complete inner outer range h in
    let packet : Packet = record { outward = true; protocol = Tcp; from = out.address; from_port = 0; to = out.address; to_port = 0; same_family = refl } in
    record {
      packet = packet;
      real = record { source = out.fits; source_port = omega arith; destination = out.fits; destination_port = omega arith };
      inside = or_left _ _ out.inside;
      outside = or_from _ _ out.outside out.outside;
    }
shape_escapes (Net inner) (Parts outer) range h =
    elim (and_cases _ _ h) [
      | inl from ↦
          let e = connection_escapes (from_net inner) outer (from_net_parts inner range) refl from in
          record { packet = e.packet; real = e.real; inside = or_left _ _ (taken (from_net inner) e.packet e.inside).source; outside = e.outside }
      | inr to ↦
          let e = connection_escapes (to_net inner) outer (to_net_parts inner range) refl to in
          record { packet = e.packet; real = e.real; inside = or_right _ _ (taken (to_net inner) e.packet e.inside).destination; outside = e.outside }
    ]
shape_escapes (Parts inner) (Net outer) range h =
    let parts = or_parts _ _ h in
    let ends = or_parts _ _ parts.1 in
    net_escapes inner outer range parts.0 ends.0 ends.1
shape_escapes (Parts inner) (Parts outer) range h =
    let parts = or_parts _ _ h in
    connection_escapes inner outer range parts.0 parts.1

-- a shape that has packets has one
pub some_packet : (s : Shape) → IsInRange s → has_no_packet s ≡ false → Escapes (has_shape s) (λ packet. false)
some_packet (Net net) range h =
    let a = first_address net in
    let packet : Packet = record { outward = true; protocol = Tcp; from = a; from_port = 0; to = a; to_port = 0; same_family = refl } in
    record {
      packet = packet;
      real = record { source = range; source_port = omega arith; destination = range; destination_port = omega arith };
      inside = or_left _ _ (first_lies net);
      outside = refl;
    }
some_packet (Parts c) range h = escape c range (some_choice c range h) (first_ends c range) (λ packet. false) refl
