use Rattle.flow_fleet_laws.proofs.Lines.{other_lines}
use Rattle.flow_fleet_laws.proofs.lines_law.Goals as goal

pub returns : goal.returns
returns c = record { other_lines = other_lines }
