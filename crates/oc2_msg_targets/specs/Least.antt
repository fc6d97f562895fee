-- Promise: The least data with a target: absent parts are not written.
use Rattle.std.specs.Prelude.{ℕ, List, [], ◌∷◌, map, Option, option_map, codes}
use Rattle.serde_json.specs.Data.{Data, string, array}
use Rattle.oc2_nets.specs.declared.flows.Flow.{Flow}
use Rattle.oc2_nets.specs.declared.flows.Flow.TheVariants as flow
use Rattle.oc2_nets.specs.declared.ipv4_nets.Net4.{Net4}
use Rattle.oc2_nets.specs.declared.ipv6_nets.Net6.{Net6}
use Rattle.oc2_nets.specs.declared.packets.Protocol.{Protocol}
use Rattle.oc2_nets.specs.Packets.{protocol_word}
use Rattle.oc2_nets.specs.Nets.{net4_text, net6_text}
use Rattle.oc2_msg_targets.specs.declared.kinds.TargetKind.{TargetKind}
use Rattle.oc2_msg_targets.specs.declared.kinds.TargetKind.TheVariants as kind
use Rattle.oc2_msg_targets.specs.declared.features.Feature.{Feature}
use Rattle.oc2_msg_targets.specs.Parts.{object_of, one_member, whole_data, texts}
use Rattle.oc2_msg_targets.specs.Words.{kind_word, feature_word}

abbrev pub net4_data : Net4 → Data
net4_data net = string (net4_text net)

abbrev pub net6_data : Net6 → Data
net6_data net = string (net6_text net)

abbrev pub protocol_data : Protocol → Data
protocol_data protocol = string (protocol_word protocol)

abbrev pub connection_data : {Net : Type 0} → (Net → Data) → Option Protocol → Option Net → Option ℕ → Option Net → Option ℕ
    → Data
connection_data net protocol source source_port destination destination_port = object_of (
    (codes "dst_addr", option_map net destination) ∷ (codes "dst_port", option_map whole_data destination_port)
    ∷ (codes "protocol", option_map protocol_data protocol) ∷ (codes "src_addr", option_map net source)
    ∷ (codes "src_port", option_map whole_data source_port) ∷ [])

abbrev pub flow_kind : Flow → TargetKind
flow_kind (flow.Net4 net) = kind.Ipv4Net
flow_kind (flow.Net6 net) = kind.Ipv6Net
flow_kind (flow.Conn4 protocol source source_port destination destination_port) = kind.Ipv4Connection
flow_kind (flow.Conn6 protocol source source_port destination destination_port) = kind.Ipv6Connection

abbrev pub flow_value : Flow → Data
flow_value (flow.Net4 net) = net4_data net
flow_value (flow.Net6 net) = net6_data net
flow_value (flow.Conn4 protocol source source_port destination destination_port) =
    connection_data net4_data protocol source source_port destination destination_port
flow_value (flow.Conn6 protocol source source_port destination destination_port) =
    connection_data net6_data protocol source source_port destination destination_port

abbrev pub flow_data : Flow → Data
flow_data f = one_member (kind_word (flow_kind f)) (flow_value f)

abbrev pub features_data : List Feature → Data
features_data features = array (texts (map feature_word features))
