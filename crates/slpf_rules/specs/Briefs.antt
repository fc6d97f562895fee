-- Promise: Lists of what a decision compares of the rules of a net.
use Rattle.std.specs.Prelude.{◌≡◌, ◌<◌, ℕ, Bool, true, ◌&&◌, nat_eq, nat_le, List, [], ◌∷◌, ◌++◌, filter, Option, Some, None, option_map, ⊤}
use Rattle.std.specs.HashMap.{get}
use Rattle.oc2_nets.specs.declared.flows.Flow.{Flow}
use Rattle.oc2_nets.specs.declared.flows.Flow.TheVariants as flow
use Rattle.oc2_nets.specs.declared.ipv4_nets.Net4.{Net4}
use Rattle.oc2_nets.specs.declared.packets.Packet.{Packet}
use Rattle.oc2_nets.specs.Flows.{covers}
use Rattle.slpf_rules.specs.declared.any_nets.AnyNet.{AnyNet}
use Rattle.slpf_rules.specs.declared.any_nets.AnyNet.TheVariants.{V4}
use Rattle.slpf_rules.specs.declared.briefs.Brief.{Brief}
use Rattle.slpf_rules.specs.declared.flows4.Flow4.{Flow4}
use Rattle.slpf_rules.specs.declared.flows4.Flow4.TheVariants as short
use Rattle.slpf_rules.specs.declared.lists.Lists.{Lists}
use Rattle.slpf_rules.specs.declared.rules.Rule.{Rule}
use Rattle.slpf_rules.specs.declared.verdicts.Verdict.{Verdict}
use Rattle.slpf_rules.specs.Filed.{is_net}
use Rattle.slpf_rules.specs.Soles.{key4}
use Rattle.slpf_rules.specs.Verdicts.{has_direction, is_before_stop}

-- the flow that is told in few bytes
abbrev pub flow_of : Flow4 → Flow
flow_of (short.Net net) = flow.Net4 net
flow_of (short.Conn protocol src src_port dst dst_port) = flow.Conn4 protocol src src_port dst dst_port

-- this tells of a rule all but how it drops
pub record IsBrief (brief : Brief) (rule : Rule) : Type 0 where
  pub number : brief.number ≡ rule.number
  pub deny : brief.deny ≡ rule.deny
  pub direction : brief.direction ≡ rule.direction
  pub start : brief.start ≡ rule.start
  pub stop : brief.stop ≡ rule.stop
  pub flow : flow_of brief.flow ≡ rule.flow

-- whether the rule is in force, has the packet's direction, and covers it
abbrev pub brief_decides : Packet → ℕ → Brief → Bool
brief_decides packet moment brief =
    nat_le brief.start moment
    && is_before_stop moment brief.stop
    && has_direction brief.direction packet.outward
    && covers (flow_of brief.flow) packet

-- what it says
abbrev pub said_of : Option Brief → Option Verdict
said_of None = None
said_of (Some brief) = Some (record { deny = brief.deny; rule = brief.number })

-- these tell of these rules, in their order
abbrev pub AreBriefs : List Brief → List Rule → Type 0
AreBriefs [] rules = rules ≡ []
AreBriefs (brief ∷ briefs) [] = brief ∷ briefs ≡ []
AreBriefs (brief ∷ briefs) (rule ∷ rules) = IsBrief brief rule × AreBriefs briefs rules

-- the last number, if there is one, is below this one
abbrev pub EndsBelow : List Brief → ℕ → Type 0
EndsBelow [] number = ⊤
EndsBelow (brief ∷ []) number = brief.number < number
EndsBelow (brief ∷ next ∷ briefs) number = EndsBelow (next ∷ briefs) number

-- a list that was there has this at its end, or this alone stands in it
abbrev pub Grown : Option (List Brief) → Bool → Brief → List Brief → Type 0
Grown None alone brief list = (alone ≡ true) × (list ≡ brief ∷ [])
Grown (Some old) alone brief list = (list ≡ old ++ brief ∷ []) × EndsBelow old brief.number

-- each list is of all rules of its net
abbrev pub AreListed : (Flow → Option AnyNet) → List Rule → Lists → Type 0
AreListed net_of rules lists = (net : Net4) (list : List Brief) → option_map (λ found. found.items) (get nat_eq lists.by_key (key4 net)) ≡ Some list
    → AreBriefs list (filter (λ rule. is_net (V4 net) (net_of rule.flow)) rules)
