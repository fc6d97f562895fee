-- Scaffold: The least number among the rules that pass a test.
use Rattle.std.specs.Prelude.{ℕ, min, Bool, false, ◌&&◌, nat_lt, List, [], ◌∷◌, Option, Some, None, if◌then◌else◌}
use Rattle.std.specs.Option.{option_map_or}
use Rattle.oc2_nets.specs.declared.flows.Flow.{Flow}
use Rattle.oc2_nets.specs.declared.packets.Address.{Address}
use Rattle.oc2_nets.specs.declared.packets.Packet.{Packet}
use Rattle.oc2_nets.specs.Nets.{lies4, lies6}
use Rattle.slpf_rules.specs.declared.any_nets.AnyNet.{AnyNet}
use Rattle.slpf_rules.specs.declared.any_nets.AnyNet.TheVariants.{V4, V6}
use Rattle.slpf_rules.specs.declared.rules.Rule.{Rule}
use Rattle.slpf_rules.specs.AnyNets.{width}
use Rattle.slpf_rules.specs.Rules.{rule_at}
use Rattle.slpf_rules.specs.Verdicts.{decides}

-- the lesser of two numbers
abbrev pub sooner : Option ℕ → Option ℕ → Option ℕ
sooner None other = other
sooner (Some number) None = Some number
sooner (Some number) (Some other) = Some (min number other)

-- the least number of a rule that passes
abbrev pub smallest : (Rule → Bool) → List Rule → Option ℕ
smallest test [] = None
smallest test (rule ∷ rules) =
    if test rule then sooner (Some rule.number) (smallest test rules) else smallest test rules

-- whether the rule of this number decides
abbrev pub number_decides : List Rule → Packet → ℕ → ℕ → Bool
number_decides rules packet moment number = option_map_or (decides packet moment) (rule_at number rules) false

-- whether an address lies in a net
abbrev pub lies_in : Address → AnyNet → Bool
lies_in address (V4 net) = lies4 net address
lies_in address (V6 net) = lies6 net address

-- whether there is a net and the address lies in it
abbrev pub holds : Address → Option AnyNet → Bool
holds address None = false
holds address (Some net) = lies_in address net

-- the same for nets of a width below this one
abbrev pub holds_below : ℕ → Address → Option AnyNet → Bool
holds_below most address None = false
holds_below most address (Some net) = nat_lt (width net) most && lies_in address net

-- whether a rule decides, and the address lies in its net
abbrev pub decides_in : (Flow → Option AnyNet) → Address → Packet → ℕ → Rule → Bool
decides_in net_of address packet moment rule = holds address (net_of rule.flow) && decides packet moment rule

-- the same for nets of a width below this one
abbrev pub decides_below : (Flow → Option AnyNet) → ℕ → Address → Packet → ℕ → Rule → Bool
decides_below net_of most address packet moment rule =
    holds_below most address (net_of rule.flow) && decides packet moment rule
