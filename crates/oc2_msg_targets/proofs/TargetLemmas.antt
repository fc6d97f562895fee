-- Targets that are written and read.
use Rattle.std.proofs.Common.{◌≡◌, ◌≤◌, ℕ, Bool, true, List, [], ◌∷◌, codes, Option, Some, None, option_map, refl, ap, arith, lit≤}
use Rattle.serde_json.specs.Data.{Data, depth}
use Rattle.serde_json.specs.Find.{get}
use Rattle.cacao_json.specs.Profile.{IsFormed}
use Rattle.oc2_nets.specs.declared.packets.Protocol.{Protocol}
use Rattle.oc2_nets.specs.declared.ipv4_nets.Net4.{Net4}
use Rattle.oc2_nets.specs.declared.ipv6_nets.Net6.{Net6}
use Rattle.oc2_nets.specs.declared.flows.Flow.{Flow}
use Rattle.oc2_nets.specs.declared.flows.Flow.TheVariants as flow
use Rattle.oc2_msg_targets.specs.declared.kinds.TargetKind.TheVariants as kind
use Rattle.oc2_msg_targets.specs.declared.targets.Target.TheVariants as target
use Rattle.oc2_msg_targets.specs.Parts.{optional, whole_data, has_only}
use Rattle.oc2_msg_targets.specs.Targets.{port, connection_parts, has_part, connection, connection4, connection6, target_in}
use Rattle.oc2_msg_targets.specs.Ranges.{Each, IsPort, FlowInRange}
use Rattle.oc2_msg_targets.specs.Least.{net4_data, net6_data, protocol_data, connection_data}
use Rattle.oc2_msg_targets.proofs.PresentLemmas.{Part, get_member-present, are_among-present, ArePartsOf, IsFormed-object_of, depth-object_of}
use Rattle.oc2_msg_targets.proofs.ValueLemmas.{optional_whole-back, optional_protocol-back, optional_net4-back, optional_net6-back, Each-whole_data, Each-protocol_data, Each-net4_data, Each-net6_data, IsUtf8-word}

-- ---- connections

abbrev parts_of : {Net : Type 0} → (Net → Data) → Option Protocol → Option Net → Option ℕ → Option Net → Option ℕ → List Part
parts_of net protocol source source_port destination destination_port =
    (codes "dst_addr", option_map net destination) ∷ (codes "dst_port", option_map whole_data destination_port)
    ∷ (codes "protocol", option_map protocol_data protocol) ∷ (codes "src_addr", option_map net source)
    ∷ (codes "src_port", option_map whole_data source_port) ∷ []

-- what stands in a connection that is written
record HasConnection {Net : Type 0} (net : Net → Data) (d : Data) (protocol : Option Protocol) (source : Option Net) (source_port : Option ℕ) (destination : Option Net) (destination_port : Option ℕ) : Type 0 where
  pub only : has_only connection_parts d ≡ true
  pub protocols : get (codes "protocol") d ≡ option_map protocol_data protocol
  pub sources : get (codes "src_addr") d ≡ option_map net source
  pub source_ports : get (codes "src_port") d ≡ option_map whole_data source_port
  pub destinations : get (codes "dst_addr") d ≡ option_map net destination
  pub destination_ports : get (codes "dst_port") d ≡ option_map whole_data destination_port

has_connection : {Net : Type 0} (net : Net → Data) (p : Option Protocol) (s : Option Net) (sp : Option ℕ) (d : Option Net) (dp : Option ℕ) → HasConnection net (connection_data net p s sp d dp) p s sp d dp
has_connection net p s sp d dp =
    let parts = parts_of net p s sp d dp in
    record {
      only = are_among-present connection_parts parts refl;
      protocols = get_member-present (codes "protocol") parts;
      sources = get_member-present (codes "src_addr") parts;
      source_ports = get_member-present (codes "src_port") parts;
      destinations = get_member-present (codes "dst_addr") parts;
      destination_ports = get_member-present (codes "dst_port") parts;
    }

ports : (o : Option ℕ) → Each IsPort o → Each (λ n. (0 ≤ n) × (n ≤ 65535)) o
ports None h = tt
ports (Some n) h = (omega arith, h)

port_back : (o : Option ℕ) → Each IsPort o → optional port (option_map whole_data o) ≡ Some o
port_back o h = optional_whole-back 0 65535 o (ports o h)

read4 : (d : Data) (p : Option Protocol) (s : Option Net4) (sp : Option ℕ) (t : Option Net4) (tp : Option ℕ) → HasConnection net4_data d p s sp t tp → FlowInRange (flow.Conn4 p s sp t tp) → connection4 d ≡ Some (flow.Conn4 p s sp t tp)
read4 d p s sp t tp h fits =
    rw (
      h.protocols,
      h.sources,
      h.source_ports,
      h.destinations,
      h.destination_ports,
      optional_protocol-back p,
      optional_net4-back s fits.0,
      port_back sp fits.1,
      optional_net4-back t fits.2,
      port_back tp fits.3,
    ) refl

read6 : (d : Data) (p : Option Protocol) (s : Option Net6) (sp : Option ℕ) (t : Option Net6) (tp : Option ℕ) → HasConnection net6_data d p s sp t tp → FlowInRange (flow.Conn6 p s sp t tp) → connection6 d ≡ Some (flow.Conn6 p s sp t tp)
read6 d p s sp t tp h fits =
    rw (
      h.protocols,
      h.sources,
      h.source_ports,
      h.destinations,
      h.destination_ports,
      optional_protocol-back p,
      optional_net6-back s fits.0,
      port_back sp fits.1,
      optional_net6-back t fits.2,
      port_back tp fits.3,
    ) refl

connected : (read : Data → Option Flow) (d : Data) (f : Flow) (only : Bool) (o : Option Flow) → has_only connection_parts d ≡ true → read d ≡ Some f → has_part f ≡ true → connection read d ≡ Some f
connected read d f only o e₁ e₂ e₃ = rw (e₁, e₂, e₃) refl

pub connection4-back : (p : Option Protocol) (s : Option Net4) (sp : Option ℕ) (t : Option Net4) (tp : Option ℕ) → FlowInRange (flow.Conn4 p s sp t tp) → has_part (flow.Conn4 p s sp t tp) ≡ true → target_in kind.Ipv4Connection (connection_data net4_data p s sp t tp) ≡ Some (target.Flow (flow.Conn4 p s sp t tp))
connection4-back p s sp t tp fits some =
    let h = has_connection net4_data p s sp t tp in
    let d = connection_data net4_data p s sp t tp in
    ap (option_map target.Flow) (connected connection4 d (flow.Conn4 p s sp t tp) true None h.only (read4 d p s sp t tp h fits) some)

pub connection6-back : (p : Option Protocol) (s : Option Net6) (sp : Option ℕ) (t : Option Net6) (tp : Option ℕ) → FlowInRange (flow.Conn6 p s sp t tp) → has_part (flow.Conn6 p s sp t tp) ≡ true → target_in kind.Ipv6Connection (connection_data net6_data p s sp t tp) ≡ Some (target.Flow (flow.Conn6 p s sp t tp))
connection6-back p s sp t tp fits some =
    let h = has_connection net6_data p s sp t tp in
    let d = connection_data net6_data p s sp t tp in
    ap (option_map target.Flow) (connected connection6 d (flow.Conn6 p s sp t tp) true None h.only (read6 d p s sp t tp h fits) some)

-- ---- connections are of the profile

abbrev IsPart : Option Data → Type 0
IsPart o = Each IsFormed o × Each (λ e. depth e ≤ 0) o

parts_fit : {Net : Type 0} (net : Net → Data) (p : Option Protocol) (s : Option Net) (sp : Option ℕ) (t : Option Net) (tp : Option ℕ) → IsPart (option_map net s) → Each IsPort sp → IsPart (option_map net t) → Each IsPort tp → ArePartsOf 0 (parts_of net p s sp t tp)
parts_fit net p s sp t tp is isp it itp =
    let a = Each-whole_data 65535 tp itp (lit≤ tt) in
    let b = Each-whole_data 65535 sp isp (lit≤ tt) in
    let c = Each-protocol_data p in (
      IsUtf8-word (codes "dst_addr") refl,
      it.0,
      it.1,
      (refl, (refl, (refl, (refl, tt)))),
      (
        IsUtf8-word (codes "dst_port") refl,
        a.0,
        a.1,
        (refl, (refl, (refl, tt))),
        (
          IsUtf8-word (codes "protocol") refl,
          c.0,
          c.1,
          (refl, (refl, tt)),
          (
            IsUtf8-word (codes "src_addr") refl,
            is.0,
            is.1,
            (refl, tt),
            (IsUtf8-word (codes "src_port") refl, b.0, b.1, tt, tt),
          ),
        ),
      ),
    )

pub IsFormed-connection4 : (p : Option Protocol) (s : Option Net4) (sp : Option ℕ) (t : Option Net4) (tp : Option ℕ) → FlowInRange (flow.Conn4 p s sp t tp) → IsFormed (connection_data net4_data p s sp t tp) × (depth (connection_data net4_data p s sp t tp) ≤ 1)
IsFormed-connection4 p s sp t tp fits =
    let h = parts_fit net4_data p s sp t tp (Each-net4_data s fits.0) fits.1 (Each-net4_data t fits.2) fits.3 in
    (IsFormed-object_of 0 (parts_of net4_data p s sp t tp) h, depth-object_of 0 (parts_of net4_data p s sp t tp) h)

pub IsFormed-connection6 : (p : Option Protocol) (s : Option Net6) (sp : Option ℕ) (t : Option Net6) (tp : Option ℕ) → FlowInRange (flow.Conn6 p s sp t tp) → IsFormed (connection_data net6_data p s sp t tp) × (depth (connection_data net6_data p s sp t tp) ≤ 1)
IsFormed-connection6 p s sp t tp fits =
    let h = parts_fit net6_data p s sp t tp (Each-net6_data s fits.0) fits.1 (Each-net6_data t fits.2) fits.3 in
    (IsFormed-object_of 0 (parts_of net6_data p s sp t tp) h, depth-object_of 0 (parts_of net6_data p s sp t tp) h)
