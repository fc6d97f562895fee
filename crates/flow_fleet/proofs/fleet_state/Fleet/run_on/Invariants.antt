use Rattle.std.proofs.Common.{◌-◌}
use Rattle.flow_world_steps.specs.Worlds.{rests}
use Rattle.flow_fleet.specs.Leads.{Goes, IsBetweenTurns}
use Rattle.flow_fleet.specs.Used.{most_used, used}
use Rattle.flow_fleet.proofs.fleet_state.Fleet.run_on.Given as goal

abbrev pub invariant-loop-close : goal.invariant-loop-close
invariant-loop-close g l = record {
  goes : Goes (g.R.Disk.view l.fn.rack) l.fn.self rests (g.R.Disk.view l.rack) l.self rests;
  between : IsBetweenTurns l.self (g.R.Disk.view l.rack);
}

abbrev pub decreases-loop-close : goal.decreases-loop-close
decreases-loop-close g l = most_used - used (g.R.Disk.view l.rack) l.self
