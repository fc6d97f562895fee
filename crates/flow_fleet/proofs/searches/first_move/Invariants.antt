use Rattle.flow_fleet.proofs.Scans.{HasNoneNear}
use Rattle.flow_fleet.proofs.searches.first_move.Given as goal

abbrev pub invariant-loop-back : goal.invariant-loop-back
invariant-loop-back l = HasNoneNear l.fn.engines l.fn.turn l.fn.now l.back
