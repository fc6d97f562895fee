-- Promise: The ranges of targets.
use Rattle.std.specs.Prelude.{ℕ, ◌<◌, ◌≤◌, ◌^◌, IsTrue, Option, Some, None, ⊤, IsUtf8}
use Rattle.oc2_nets.specs.declared.flows.Flow.{Flow}
use Rattle.oc2_nets.specs.declared.flows.Flow.TheVariants as flow
use Rattle.oc2_nets.specs.declared.ipv4_nets.Net4.{Net4}
use Rattle.oc2_nets.specs.declared.ipv6_nets.Net6.{Net6}
use Rattle.oc2_msg_targets.specs.declared.targets.Target.{Target}
use Rattle.oc2_msg_targets.specs.declared.targets.Target.TheVariants as target
use Rattle.oc2_msg_targets.specs.Targets.{has_part}
use Rattle.oc2_msg_targets.specs.Features.{is_distinct}

-- 1 to 4,294,967,295
abbrev pub IsRuleNumber : ℕ → Type 0
IsRuleNumber n = (1 ≤ n) × (n ≤ 4_294_967_295)

abbrev pub IsPort : ℕ → Type 0
IsPort n = n ≤ 65_535

abbrev pub IsNet4 : Net4 → Type 0
IsNet4 net = net.bits < 2 ^ 32

abbrev pub IsNet6 : Net6 → Type 0
IsNet6 net = net.bits < 2 ^ 128

-- what stands is so
abbrev pub Each : {A : Type 0} → (A → Type 0) → Option A → Type 0
Each P None = ⊤
Each P (Some a) = P a

abbrev pub FlowInRange : Flow → Type 0
FlowInRange (flow.Net4 net) = IsNet4 net
FlowInRange (flow.Net6 net) = IsNet6 net
FlowInRange (flow.Conn4 protocol source source_port destination destination_port) =
    Each IsNet4 source × Each IsPort source_port × Each IsNet4 destination × Each IsPort destination_port
FlowInRange (flow.Conn6 protocol source source_port destination destination_port) =
    Each IsNet6 source × Each IsPort source_port × Each IsNet6 destination × Each IsPort destination_port

-- the ranges and demands that every target keeps which a reader gives
abbrev pub TargetInRange : Target → Type 0
TargetInRange (target.Flow f) = FlowInRange f × IsTrue (has_part f)
TargetInRange (target.RuleNumber number) = IsRuleNumber number
TargetInRange (target.File name) = IsUtf8 name
TargetInRange (target.Features features) = IsTrue (is_distinct features)
