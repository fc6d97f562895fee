-- Scaffold: The least number of a rule that shadows, as it is looked up.
use Rattle.std.specs.Prelude.{ℕ, ◌+◌, Bool, false, ◌&&◌, List, [], ◌∷◌, ◌++◌, Option, Some, None}
use Rattle.std.specs.Option.{option_map_or}
use Rattle.oc2_nets.specs.declared.flows.Flow.{Flow}
use Rattle.oc2_nets.specs.declared.packets.Address.{Address}
use Rattle.slpf_rules.specs.declared.any_nets.AnyNet.{AnyNet}
use Rattle.slpf_rules.specs.declared.rules.Rule.{Rule}
use Rattle.slpf_rules.specs.AnyNets.{width}
use Rattle.slpf_rules.specs.Rules.{rule_at}
use Rattle.slpf_rules.specs.Deciding.{smallest, holds_below}
use Rattle.slpf_shadow.specs.declared.shadow_lists.Shadow.{Shadow}
use Rattle.slpf_shadow.specs.Nets.{first_address}
use Rattle.slpf_shadow.specs.Tests.{shadows}

-- whether the rule of this number shadows
abbrev pub number_shadows : List Rule → Rule → ℕ → Bool
number_shadows rules later number = option_map_or (λ earlier. shadows earlier later) (rule_at number rules) false

-- whether a rule shadows, and its net has a width below this one and holds the address
abbrev pub shadows_below : (Flow → Option AnyNet) → ℕ → Address → Rule → Rule → Bool
shadows_below net_of most address later earlier =
    holds_below most address (net_of earlier.flow) && shadows earlier later

-- whether a rule shadows, and its net holds each address of this one
abbrev pub shadows_round : (Flow → Option AnyNet) → AnyNet → Rule → Rule → Bool
shadows_round net_of net later earlier = shadows_below net_of (width net + 1) (first_address net) later earlier

-- the least number of a rule that shadows
abbrev pub least_shadow : List Rule → Rule → Option ℕ
least_shadow rules later = smallest (λ earlier. shadows earlier later) rules

-- what is listed of a rule
abbrev pub entry : ℕ → Option ℕ → List Shadow
entry number None = []
entry number (Some by) = record { rule = number; by = by } ∷ []

-- what is listed of these among all rules
abbrev pub listing : List Rule → List Rule → List Shadow
listing rules [] = []
listing rules (later ∷ rest) = entry later.number (least_shadow rules later) ++ listing rules rest
