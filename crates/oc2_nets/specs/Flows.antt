-- Promise: Which packets a flow covers.
use Rattle.std.specs.Prelude.{ℕ, Bool, true, false, ◌==◌, ◌&&◌, ◌||◌, not, Option, Some, None}
use Rattle.oc2_nets.specs.declared.packets.Protocol.{Protocol}
use Rattle.oc2_nets.specs.declared.packets.Protocol.TheVariants.{Icmp, Tcp, Udp, Sctp}
use Rattle.oc2_nets.specs.declared.packets.Packet.{Packet}
use Rattle.oc2_nets.specs.declared.flows.Flow.{Flow}
use Rattle.oc2_nets.specs.declared.flows.Flow.TheVariants as flow
use Rattle.oc2_nets.specs.Nets.{lies4, lies6}
use Rattle.oc2_nets.specs.Families.{is_v4}
use Rattle.oc2_nets.specs.Packets.{is_icmp}

-- a part that is not stated agrees
abbrev pub agrees : {A : Type 0} → (A → Bool) → Option A → Bool
agrees test None = true
agrees test (Some part) = test part

-- a stated port agrees with no icmp packet
abbrev pub has_port : Protocol → ℕ → ℕ → Bool
has_port protocol port stated = not (is_icmp protocol) && (port == stated)

abbrev pub is_protocol : Protocol → Protocol → Bool
is_protocol Icmp Icmp = true
is_protocol Tcp Tcp = true
is_protocol Udp Udp = true
is_protocol Sctp Sctp = true
is_protocol protocol other = false

-- A net covers a packet of its family whose source or destination lies in it. A connection covers a packet
-- of its family where each part that it states agrees.
abbrev pub covers : Flow → Packet → Bool
covers (flow.Net4 net) p = lies4 net p.from || lies4 net p.to
covers (flow.Net6 net) p = lies6 net p.from || lies6 net p.to
covers (flow.Conn4 protocol src src_port dst dst_port) p =
    is_v4 p.from
    && agrees (is_protocol p.protocol) protocol
    && agrees (λ net. lies4 net p.from) src
    && agrees (has_port p.protocol p.from_port) src_port
    && agrees (λ net. lies4 net p.to) dst
    && agrees (has_port p.protocol p.to_port) dst_port
covers (flow.Conn6 protocol src src_port dst dst_port) p =
    not (is_v4 p.from)
    && agrees (is_protocol p.protocol) protocol
    && agrees (λ net. lies6 net p.from) src
    && agrees (has_port p.protocol p.from_port) src_port
    && agrees (λ net. lies6 net p.to) dst
    && agrees (has_port p.protocol p.to_port) dst_port
