-- Scaffold: Whether a rule shadows another, as a test.
use Rattle.std.specs.Prelude.{ℕ, Bool, true, false, ◌&&◌, ◌||◌, nat_lt, nat_le, Option, Some, None}
use Rattle.oc2_msg.specs.declared.directions.Direction.{Direction}
use Rattle.oc2_msg.specs.declared.directions.Direction.TheVariants.{Both, Ingress, Egress}
use Rattle.slpf_rules.specs.declared.rules.Rule.{Rule}
use Rattle.slpf_shadow.specs.Shapes.{shape, has_no_packet, flow_within}

-- whether the stop is not past the start
abbrev pub is_over : ℕ → Option ℕ → Bool
is_over start None = false
is_over start (Some stop) = nat_le stop start

-- whether a rule is in force at no moment, or covers no packet
abbrev pub never_decides : Rule → Bool
never_decides rule = is_over rule.start rule.stop || has_no_packet (shape rule.flow)

abbrev pub stop_within : Option ℕ → Option ℕ → Bool
stop_within inner None = true
stop_within None (Some outer) = false
stop_within (Some inner) (Some outer) = nat_le inner outer

abbrev pub moments_within : Rule → Rule → Bool
moments_within inner outer = nat_le outer.start inner.start && stop_within inner.stop outer.stop

abbrev pub direction_within : Direction → Direction → Bool
direction_within inner Both = true
direction_within Ingress Ingress = true
direction_within Egress Egress = true
direction_within inner outer = false

abbrev pub rule_within : Rule → Rule → Bool
rule_within inner outer =
    moments_within inner outer
    && direction_within inner.direction outer.direction
    && flow_within inner.flow outer.flow

-- whether the earlier rule shadows the later one
abbrev pub shadows : Rule → Rule → Bool
shadows earlier later =
    nat_lt earlier.number later.number && (never_decides later || rule_within later earlier)
