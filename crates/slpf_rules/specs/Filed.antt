-- Promise: Under which nets a rule is filed.
use Rattle.std.specs.Prelude.{ℕ, Bool, false, ◌&&◌, List, [], ◌∷◌, filter, Option, Some, None, option_map, is_none}
use Rattle.std.specs.Ordering.{eq_by_cmp}
use Rattle.oc2_nets.specs.declared.flows.Flow.{Flow}
use Rattle.oc2_nets.specs.declared.flows.Flow.TheVariants as flow
use Rattle.slpf_rules.specs.declared.any_nets.AnyNet.{AnyNet}
use Rattle.slpf_rules.specs.declared.any_nets.AnyNet.TheVariants.{V4, V6}
use Rattle.slpf_rules.specs.declared.rules.Rule.{Rule}
use Rattle.slpf_rules.specs.AnyNets.{net_cmp}
use Rattle.slpf_rules.specs.Rules.{numbers}

-- the net of the first map: a net, or a connection's source net
abbrev pub source_net : Flow → Option AnyNet
source_net (flow.Net4 net) = Some (V4 net)
source_net (flow.Net6 net) = Some (V6 net)
source_net (flow.Conn4 protocol src src_port dst dst_port) = option_map V4 src
source_net (flow.Conn6 protocol src src_port dst dst_port) = option_map V6 src

-- the net of the second map: a net, or the destination net of a connection without a source net
abbrev pub destination_net : Flow → Option AnyNet
destination_net (flow.Net4 net) = Some (V4 net)
destination_net (flow.Net6 net) = Some (V6 net)
destination_net (flow.Conn4 protocol None src_port dst dst_port) = option_map V4 dst
destination_net (flow.Conn4 protocol (Some src) src_port dst dst_port) = None
destination_net (flow.Conn6 protocol None src_port dst dst_port) = option_map V6 dst
destination_net (flow.Conn6 protocol (Some src) src_port dst dst_port) = None

-- whether this is the net
abbrev pub is_net : AnyNet → Option AnyNet → Bool
is_net net None = false
is_net net (Some other) = eq_by_cmp net_cmp net other

-- a list, if it is not empty
abbrev pub listed : List ℕ → Option (List ℕ)
listed [] = None
listed (number ∷ rest) = Some (number ∷ rest)

-- what a map has under a net: the numbers of the rules whose net this is
abbrev pub filed : (Flow → Option AnyNet) → List Rule → AnyNet → Option (List ℕ)
filed net_of rules net = listed (numbers (filter (λ rule. is_net net (net_of rule.flow)) rules))

abbrev pub by_source : List Rule → AnyNet → Option (List ℕ)
by_source rules net = filed source_net rules net

abbrev pub by_destination : List Rule → AnyNet → Option (List ℕ)
by_destination rules net = filed destination_net rules net

-- whether a rule stands in neither map
abbrev pub is_unfiled : Rule → Bool
is_unfiled rule = is_none (source_net rule.flow) && is_none (destination_net rule.flow)

-- the numbers of the rules that stand in neither map
abbrev pub unfiled : List Rule → List ℕ
unfiled rules = numbers (filter is_unfiled rules)
