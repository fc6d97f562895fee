use Rattle.flow_fleet_sums.proofs.Ends.{fleets_end, fleets_ignore, fleets_wait}
use Rattle.flow_fleet_sums.proofs.Floods.{fleets_flood}
use Rattle.flow_fleet_sums.proofs.fleet_ends_law.Goals as goal

pub returns : goal.returns
returns c = record { ended = fleets_end; waits = fleets_wait; ignored = fleets_ignore; floods = fleets_flood }
