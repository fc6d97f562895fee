-- Promise: The verdict for a packet.
use Rattle.std.specs.Prelude.{ℕ, Bool, true, false, not, ◌&&◌, nat_lt, nat_le, List, [], ◌∷◌, filter, Option, Some, None, if◌then◌else◌}
use Rattle.oc2_nets.specs.declared.packets.Packet.{Packet}
use Rattle.oc2_nets.specs.Flows.{covers}
use Rattle.oc2_msg.specs.declared.directions.Direction.{Direction}
use Rattle.oc2_msg.specs.declared.directions.Direction.TheVariants.{Both, Ingress, Egress}
use Rattle.slpf_rules.specs.declared.rules.Rule.{Rule}
use Rattle.slpf_rules.specs.declared.verdicts.Verdict.{Verdict}

-- whether a direction is that of a packet that goes out, or comes in
abbrev pub has_direction : Direction → Bool → Bool
has_direction Both outward = true
has_direction Ingress outward = not outward
has_direction Egress outward = outward

abbrev pub is_before_stop : ℕ → Option ℕ → Bool
is_before_stop moment None = true
is_before_stop moment (Some stop) = nat_lt moment stop

-- a rule is in force from its start on, and before its stop
abbrev pub is_in_force : ℕ → Rule → Bool
is_in_force moment rule = nat_le rule.start moment && is_before_stop moment rule.stop

-- whether a rule is in force, has the packet's direction, and covers it
abbrev pub decides : Packet → ℕ → Rule → Bool
decides packet moment rule =
    is_in_force moment rule && has_direction rule.direction packet.outward && covers rule.flow packet

-- the one of the lesser number
abbrev pub lesser : Rule → Option Rule → Rule
lesser rule None = rule
lesser rule (Some other) = if nat_lt other.number rule.number then other else rule

-- the rule of the least number
abbrev pub least : List Rule → Option Rule
least [] = None
least (rule ∷ rules) = Some (lesser rule (least rules))

-- what a rule says; a packet without a rule is allowed
abbrev pub verdict_of : Option Rule → Verdict
verdict_of None = record { deny = false; rule = 0 }
verdict_of (Some rule) = record { deny = rule.deny; rule = rule.number }

-- the verdict of the least-numbered rule in force that covers the packet and has its direction
abbrev pub verdict : List Rule → Packet → ℕ → Verdict
verdict rules packet moment = verdict_of (least (filter (decides packet moment) rules))
