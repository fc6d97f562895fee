-- Scaffold: Whether a task that can go on is at an operator's place.
use Rattle.std.specs.Prelude.{Bool, true, false, Option, Some, None}
use Rattle.flow_core_rules.specs.Places.{Place, to_filter, to_operator}

abbrev pub is_operators : Option Place → Bool
is_operators None = false
is_operators (Some (to_filter content to)) = false
is_operators (Some (to_operator content)) = true
