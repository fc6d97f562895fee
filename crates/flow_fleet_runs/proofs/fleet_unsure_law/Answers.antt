use Rattle.flow_fleet_runs.proofs.Offered.{fleets_offer, fleets_offer_acts, offered_begins}
use Rattle.flow_fleet_runs.proofs.fleet_unsure_law.Goals as goal

pub returns : goal.returns
returns c = record { offered = fleets_offer; begins = offered_begins; acts = fleets_offer_acts }
