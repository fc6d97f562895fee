use Rattle.flow_fleet_runs.proofs.Acted.{ended_run_is_acted_on, fleet_send_is_acted_on}
use Rattle.flow_fleet_runs.proofs.Complete.{fleets_complete}
use Rattle.flow_fleet_runs.proofs.Lossless.{fleets_under_way, no_fleet_expiry}
use Rattle.flow_fleet_runs.proofs.fleet_complete_law.Goals as goal

pub returns : goal.returns
returns c = record {
  under_way = fleets_under_way;
  no_expiry = no_fleet_expiry;
  complete = fleets_complete;
  ended = ended_run_is_acted_on;
  acted_on = fleet_send_is_acted_on;
}
