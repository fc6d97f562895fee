use Rattle.flow_fleet_runs.proofs.Each.{fleets_speak_at}
use Rattle.flow_fleet_runs.proofs.Lines.{fleets_tell}
use Rattle.flow_fleet_runs.proofs.fleet_lines_law.Goals as goal

pub returns : goal.returns
returns c = record { tells = fleets_tell; each = fleets_speak_at }
