use Rattle.flow_fleet_returns.proofs.Undamaged.{no_fleet_finds_damage}
use Rattle.flow_fleet_returns.proofs.fleet_undamaged_law.Goals as goal

pub returns : goal.returns
returns c = record { undamaged = no_fleet_finds_damage c.complete_laws.ensures.undamaged }
