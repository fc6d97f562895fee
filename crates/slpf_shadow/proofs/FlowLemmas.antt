-- A flow is within another exactly where the test says so.
use Rattle.std.proofs.Common.{◌≡◌, Bool, true, false, refl, sym, ◌∙◌}
use Rattle.std.proofs.lemmas.Bool.{false≢true, true_from_ne_false}
use Rattle.oc2_nets.specs.declared.flows.Flow.{Flow}
use Rattle.oc2_nets.specs.declared.flows.Flow.TheVariants as flow
use Rattle.oc2_nets.specs.declared.packets.Packet.{Packet}
use Rattle.oc2_nets.specs.Flows.{covers}
use Rattle.slpf_shadow.specs.Packets.{IsPacket, IsWithin}
use Rattle.slpf_shadow.specs.Shapes.{shape, has_no_packet, flow_within}
use Rattle.slpf_shadow.specs.Ranges.{IsInRange}
use Rattle.slpf_shadow.proofs.Coverage.{covers-shape, shape_within-sound, no_packet}
use Rattle.slpf_shadow.proofs.Escapes.{Escapes, shape_escapes, some_packet}

pub flow_within-sound : (inner outer : Flow) → flow_within inner outer ≡ true → IsWithin inner outer
flow_within-sound inner outer h = λ packet real covered.
    covers-shape outer packet real
    ∙ shape_within-sound (shape inner) (shape outer) packet real h (sym (covers-shape inner packet real) ∙ covered)

-- a packet that one flow covers and the other does not
pub flow_escapes : (inner outer : Flow) → IsInRange (shape inner) → flow_within inner outer ≡ false → Escapes (covers inner) (covers outer)
flow_escapes inner outer range h =
    let e = shape_escapes (shape inner) (shape outer) range h in
    record {
      packet = e.packet;
      real = e.real;
      inside = covers-shape inner e.packet e.real ∙ e.inside;
      outside = covers-shape outer e.packet e.real ∙ e.outside;
    }

pub not_escaped : (inner outer : Packet → Bool) → Escapes inner outer → ((packet : Packet) → IsPacket packet → inner packet ≡ true → outer packet ≡ true) → false ≡ true
not_escaped inner outer e h = sym e.outside ∙ h e.packet e.real e.inside

pub flow_within-complete : (inner outer : Flow) → IsInRange (shape inner) → IsWithin inner outer → flow_within inner outer ≡ true
flow_within-complete inner outer range h =
    true_from_ne_false (flow_within inner outer) (λ out. absurd (false≢true (not_escaped (covers inner) (covers outer) (flow_escapes inner outer range out) h)))

-- a flow that has packets covers one
pub covers_some : (f : Flow) → IsInRange (shape f) → has_no_packet (shape f) ≡ false → Escapes (covers f) (λ packet. false)
covers_some f range h =
    let e = some_packet (shape f) range h in
    record { packet = e.packet; real = e.real; inside = covers-shape f e.packet e.real ∙ e.inside; outside = refl }

pub covers_none : (f : Flow) (packet : Packet) → IsPacket packet → has_no_packet (shape f) ≡ true → covers f packet ≡ true → false ≡ true
covers_none f packet real h covered = no_packet (shape f) packet h (sym (covers-shape f packet real) ∙ covered)

-- the same packet, going out or coming in
abbrev pub turned : Bool → Packet → Packet
turned outward packet = record packet { outward = outward }

pub covers-turned : (f : Flow) (outward : Bool) (packet : Packet) → covers f (turned outward packet) ≡ covers f packet
covers-turned (flow.Net4 net) outward packet = refl
covers-turned (flow.Net6 net) outward packet = refl
covers-turned (flow.Conn4 protocol src src_port dst dst_port) outward packet = refl
covers-turned (flow.Conn6 protocol src src_port dst dst_port) outward packet = refl

pub turned_is_packet : (outward : Bool) (packet : Packet) → IsPacket packet → IsPacket (turned outward packet)
turned_is_packet outward packet real = record {
  source = real.source;
  source_port = real.source_port;
  destination = real.destination;
  destination_port = real.destination_port;
}
