use Rattle.flow_fleet.proofs.LoopLemmas.{HaveBegun}
use Rattle.flow_fleet.proofs.fleet_state.Fleet.run.Given as goal

abbrev pub invariant-loop-place : goal.invariant-loop-place
invariant-loop-place g l = HaveBegun l.place l.fn.self l.self (g.R.Disk.view l.fn.rack) (g.R.Disk.view l.rack)
