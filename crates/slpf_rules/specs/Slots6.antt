-- Promise: What a decision reads of a rule that stands alone under its IPv6 net.
use Rattle.std.specs.Prelude.{Bool, false, ◌&&◌, ◌==◌, Option, Some, None, is_none}
use Rattle.oc2_nets.specs.declared.ipv6_nets.Net6.{Net6}
use Rattle.slpf_rules.specs.declared.rules.Rule.{Rule}
use Rattle.slpf_rules.specs.declared.slots6.Slot6.{Slot6}
use Rattle.slpf_rules.specs.declared.verdicts.Verdict.{Verdict}
use Rattle.slpf_rules.specs.Slots.{said_if}

-- a place that is free
abbrev pub free_slot6 : Slot6
free_slot6 = record { bits = 0; number = 0; width = 0; deny = false; direction = None }

-- the place of a rule under a net
abbrev pub slot_of6 : Net6 → Rule → Slot6
slot_of6 net rule = record {
  bits = net.bits;
  number = rule.number;
  width = net.width;
  deny = rule.deny;
  direction = Some rule.direction;
}

abbrev pub is_free6 : Slot6 → Bool
is_free6 slot = is_none slot.direction

-- whether the bits and the width are those of a net
abbrev pub is_of6 : Net6 → Slot6 → Bool
is_of6 net slot = (slot.bits == net.bits) && (slot.width == net.width)

-- what the rule says of a packet that goes out, or comes in, if it has that direction
abbrev pub said_by6 : Slot6 → Bool → Option Verdict
said_by6 slot outward = said_if (record { deny = slot.deny; rule = slot.number }) outward slot.direction
