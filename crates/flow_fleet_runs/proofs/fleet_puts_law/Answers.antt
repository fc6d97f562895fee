use Rattle.flow_fleet_runs.proofs.Puts.{each_fleet_puts_few}
use Rattle.flow_fleet_runs.proofs.fleet_puts_law.Goals as goal

pub returns : goal.returns
returns c = record { puts = each_fleet_puts_few c.events_law.ensures.numbers }
