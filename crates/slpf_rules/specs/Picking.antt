-- Scaffold: What is said by the rule of a number that was found.
use Rattle.std.specs.Prelude.{◌≡◌, ℕ, true, nat_lt, List, Option, Some, None, if◌then◌else◌}
use Rattle.oc2_nets.specs.declared.flows.Flow.{Flow}
use Rattle.oc2_nets.specs.declared.packets.Address.{Address}
use Rattle.oc2_nets.specs.declared.packets.Packet.{Packet}
use Rattle.oc2_nets.specs.Flows.{covers}
use Rattle.slpf_rules.specs.declared.any_nets.AnyNet.{AnyNet}
use Rattle.slpf_rules.specs.declared.rules.Rule.{Rule}
use Rattle.slpf_rules.specs.declared.verdicts.Verdict.{Verdict}
use Rattle.slpf_rules.specs.Deciding.{holds}
use Rattle.slpf_rules.specs.Rules.{rule_at}
use Rattle.slpf_rules.specs.Quick.{is_of_net}
use Rattle.slpf_rules.specs.Verdicts.{verdict_of}

-- the verdict of the lesser number
abbrev pub earlier : Option Verdict → Option Verdict → Option Verdict
earlier None other = other
earlier (Some verdict) None = Some verdict
earlier (Some verdict) (Some other) = if nat_lt other.rule verdict.rule then Some other else Some verdict

-- what the rule of a number says
abbrev pub picked : List Rule → Option ℕ → Option Verdict
picked rules None = None
picked rules (Some number) = Some (verdict_of (rule_at number rules))

-- what was found; a packet without a rule is allowed
abbrev pub said_or_allowed : Option Verdict → Verdict
said_or_allowed None = verdict_of None
said_or_allowed (Some verdict) = verdict

-- a flow that is a net covers a packet where the net that it is filed under holds this address
abbrev pub NetsCover : (Flow → Option AnyNet) → Address → Packet → Type 0
NetsCover net_of address packet = (flow : Flow) → is_of_net flow ≡ true → holds address (net_of flow) ≡ true → covers flow packet ≡ true
