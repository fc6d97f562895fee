use Rattle.oc2_wire_laws.proofs.EngineCalls.{command_is_kept, line_is_kept, shrunk_is_kept}
use Rattle.oc2_wire_laws.proofs.EngineRecord.{record_is_kept}
use Rattle.oc2_wire_laws.proofs.Kept.{more_is_got}
use Rattle.oc2_wire_laws.proofs.engine_laws.Goals as goal

pub returns : goal.returns
returns c = record { shrunk = shrunk_is_kept; record_kept = record_is_kept; command = command_is_kept; line = line_is_kept; got = more_is_got }
