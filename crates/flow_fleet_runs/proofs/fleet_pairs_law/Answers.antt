use Rattle.flow_fleet_runs.proofs.Pairs.{fleet_runs_are, one_run_is, one_run_more_is, pairs_have, places_have}
use Rattle.flow_fleet_runs.proofs.fleet_pairs_law.Goals as goal

pub returns : goal.returns
returns c = record { one = one_run_is; more = one_run_more_is; places = pairs_have; pairs = places_have; runs = fleet_runs_are }
