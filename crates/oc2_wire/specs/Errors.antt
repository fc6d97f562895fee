-- Promise: Whose refusal becomes which at an end of a wire.
use Rattle.std.specs.Prelude.{Option, Some, None, ⊤}
use Rattle.flow_world_parts.specs.declared.error.WorldError.{WorldError}
use Rattle.flow_world_parts.specs.declared.error.WorldError.TheVariants as error
use Rattle.oc2_wire.specs.declared.error.WireError.{WireError}
use Rattle.oc2_wire.specs.declared.error.WireError.TheVariants as wire

-- the refusal of an end for that of a session's part; no end tells that a filter has acts of the run
abbrev pub wire_error : WorldError → Option WireError
wire_error error.Disk = Some wire.Disk
wire_error (error.Damaged file place) = Some (wire.Damaged file place)
wire_error (error.OtherRun held asked) = Some (wire.OtherRun held asked)
wire_error (error.OtherBook index) = Some (wire.OtherBook index)
wire_error (error.RunUsed agent) = None
wire_error (error.Limit what) = Some (wire.Limit what)
wire_error error.Say = Some wire.Say
wire_error error.Memory = Some wire.Memory

-- the refusals of the engine's end
abbrev pub IsOfEngine : WireError → Type 0
IsOfEngine wire.Flooded = ⊥
IsOfEngine wire.TooLong = ⊥
IsOfEngine wire.Link = ⊥
IsOfEngine other = ⊤
