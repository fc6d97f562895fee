use Rattle.std.proofs.Common.{arith}
use Rattle.flow_fleet.proofs.Scans.{near_all}
use Rattle.flow_fleet.proofs.searches.first_move.Goals as goal

pub returns : goal.returns
returns c = near_all c.args.engines.now c.args.turn c.args.now c.loop-back.back c.requires.turn (omega (arith, c.loop-back-test.false)) c.loop-back.invariant
