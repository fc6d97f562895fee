-- Promise: What a decision reads of a rule that stands alone under its net.
use Rattle.std.specs.Prelude.{Bool, false, ◌&&◌, ◌==◌, Option, Some, None, is_none, if◌then◌else◌}
use Rattle.oc2_msg.specs.declared.directions.Direction.{Direction}
use Rattle.oc2_nets.specs.declared.ipv4_nets.Net4.{Net4}
use Rattle.slpf_rules.specs.declared.rules.Rule.{Rule}
use Rattle.slpf_rules.specs.declared.slots.Slot.{Slot}
use Rattle.slpf_rules.specs.declared.verdicts.Verdict.{Verdict}
use Rattle.slpf_rules.specs.Verdicts.{has_direction}

-- a place that is free
abbrev pub free_slot : Slot
free_slot = record { bits = 0; number = 0; width = 0; deny = false; direction = None }

-- the place of a rule under a net
abbrev pub slot_of : Net4 → Rule → Slot
slot_of net rule = record {
  bits = net.bits;
  number = rule.number;
  width = net.width;
  deny = rule.deny;
  direction = Some rule.direction;
}

abbrev pub is_free : Slot → Bool
is_free slot = is_none slot.direction

-- whether the bits and the width are those of a net
abbrev pub is_of : Net4 → Slot → Bool
is_of net slot = (slot.bits == net.bits) && (slot.width == net.width)

abbrev pub said_if : Verdict → Bool → Option Direction → Option Verdict
said_if verdict outward None = None
said_if verdict outward (Some direction) = if has_direction direction outward then Some verdict else None

-- what the rule says of a packet that goes out, or comes in, if it has that direction
abbrev pub said_by : Slot → Bool → Option Verdict
said_by slot outward = said_if (record { deny = slot.deny; rule = slot.number }) outward slot.direction
