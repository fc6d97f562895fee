use Rattle.flow_fleet.proofs.Scans.{LeastBelow}
use Rattle.flow_fleet.proofs.searches.least_next.Given as goal

abbrev pub invariant-loop-place : goal.invariant-loop-place
invariant-loop-place l = LeastBelow l.place l.fn.engines l.least
