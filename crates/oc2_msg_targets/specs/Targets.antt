-- Promise: The targets of commands.
use Rattle.std.specs.Prelude.{ℕ, List, [], ◌∷◌, Bool, true, ◌||◌, Option, Some, None, option_map, option_and_then, is_some, codes, if◌then◌else◌}
use Rattle.serde_json.specs.Data.{Data}
use Rattle.serde_json.specs.Find.{get, as_str, as_array}
use Rattle.oc2_nets.specs.declared.packets.Protocol.{Protocol}
use Rattle.oc2_nets.specs.declared.flows.Flow.{Flow}
use Rattle.oc2_nets.specs.declared.flows.Flow.TheVariants as flow
use Rattle.oc2_nets.specs.declared.ipv4_nets.Net4.{Net4}
use Rattle.oc2_nets.specs.declared.ipv6_nets.Net6.{Net6}
use Rattle.oc2_nets.specs.Nets.{net4_of, net6_of}
use Rattle.oc2_nets.specs.Packets.{protocol_of}
use Rattle.oc2_msg_targets.specs.declared.kinds.TargetKind.{TargetKind}
use Rattle.oc2_msg_targets.specs.declared.kinds.TargetKind.TheVariants as kind
use Rattle.oc2_msg_targets.specs.declared.targets.Target.{Target}
use Rattle.oc2_msg_targets.specs.declared.targets.Target.TheVariants as target
use Rattle.oc2_msg_targets.specs.Parts.{◌>>=◌, provided, optional, has_only, whole}
use Rattle.oc2_msg_targets.specs.Features.{features_in, distinct}

abbrev pub net4_in : Data → Option Net4
net4_in d = option_and_then net4_of (as_str d)

abbrev pub net6_in : Data → Option Net6
net6_in d = option_and_then net6_of (as_str d)

abbrev pub protocol_in : Data → Option Protocol
protocol_in d = option_and_then protocol_of (as_str d)

abbrev pub port : Data → Option ℕ
port d = whole 0 65_535 d

-- ---- connections: one or more of these parts, and no other

abbrev pub connection_parts : List (List ℕ)
connection_parts =
    codes "dst_addr" ∷ codes "dst_port" ∷ codes "protocol" ∷ codes "src_addr" ∷ codes "src_port" ∷ []

-- a connection has some part
abbrev pub has_part : Flow → Bool
has_part (flow.Net4 net) = true
has_part (flow.Net6 net) = true
has_part (flow.Conn4 protocol source source_port destination destination_port) =
    is_some protocol || is_some source || is_some source_port || is_some destination || is_some destination_port
has_part (flow.Conn6 protocol source source_port destination destination_port) =
    is_some protocol || is_some source || is_some source_port || is_some destination || is_some destination_port

abbrev pub connection4 : Data → Option Flow
connection4 d = do
  protocol ← optional protocol_in (get (codes "protocol") d)
  source ← optional net4_in (get (codes "src_addr") d)
  source_port ← optional port (get (codes "src_port") d)
  destination ← optional net4_in (get (codes "dst_addr") d)
  destination_port ← optional port (get (codes "dst_port") d)
  Some (flow.Conn4 protocol source source_port destination destination_port)

abbrev pub connection6 : Data → Option Flow
connection6 d = do
  protocol ← optional protocol_in (get (codes "protocol") d)
  source ← optional net6_in (get (codes "src_addr") d)
  source_port ← optional port (get (codes "src_port") d)
  destination ← optional net6_in (get (codes "dst_addr") d)
  destination_port ← optional port (get (codes "dst_port") d)
  Some (flow.Conn6 protocol source source_port destination destination_port)

abbrev pub with_part : Flow → Option Flow
with_part f = if has_part f then Some f else None

abbrev pub connection : (Data → Option Flow) → Data → Option Flow
connection read d = provided (has_only connection_parts d) (option_and_then with_part (read d))

-- ---- the value of a target of each kind

abbrev pub target_in : TargetKind → Data → Option Target
target_in kind.Ipv4Net d = option_map (λ net. target.Flow (flow.Net4 net)) (net4_in d)
target_in kind.Ipv6Net d = option_map (λ net. target.Flow (flow.Net6 net)) (net6_in d)
target_in kind.Ipv4Connection d = option_map target.Flow (connection connection4 d)
target_in kind.Ipv6Connection d = option_map target.Flow (connection connection6 d)
target_in kind.RuleNumber d = option_map target.RuleNumber (whole 1 4_294_967_295 d)
target_in kind.File d = option_map target.File (option_and_then as_str (get (codes "name") d))
target_in kind.Features d =
    option_map target.Features (option_and_then distinct (option_and_then features_in (as_array d)))
