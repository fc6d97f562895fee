use Rattle.flow_fleet_steps.proofs.Openings.{openings_shrink}
use Rattle.flow_fleet_steps.proofs.Whole.{fleets_are_events, fleets_keep_each}
use Rattle.flow_fleet_steps.proofs.laws.fleet_events_law.Goals as goal

pub returns : goal.returns
returns c = record { openings = openings_shrink; events = fleets_are_events; each = fleets_keep_each }
