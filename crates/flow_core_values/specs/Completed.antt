-- Scaffold: The arguments of a command that asks for a complete response.
use Rattle.std.specs.Prelude.{Option}
use Rattle.std.specs.Option.{option_map_or}
use Rattle.serde_json.specs.Data.{Data, object, no_members}
use Rattle.flow_core_rules.specs.Filled.{completed}

-- those that it has, or none
abbrev pub completed_args : Option Data → Data
completed_args args = option_map_or completed args (completed (object no_members))
