use Rattle.std.proofs.Common.{arith}
use Rattle.flow_fleet.proofs.ParcelLemmas.{still_between}
use Rattle.flow_fleet.proofs.TurnLemmas.{dropped}
use Rattle.flow_fleet.proofs.fleet_state.Fleet.hand_on.Goals as goal

pub overflow_add-self : goal.overflow_add-self
overflow_add-self g c = let calm = c.requires.between.calm in omega (arith, calm)

pub returns-then-not-is_addressed-clause-did : goal.returns-then-not-is_addressed-clause-did
returns-then-not-is_addressed-clause-did g c = λ beat.
    dropped (g.R.Disk.view c.args.rack.now) c.args.self.now beat c.args.parcel.now (c.is_addressed.ensures.no c.if-not-is_addressed.true) c.requires.between.calm

pub returns-then-not-is_addressed-clause-works : goal.returns-then-not-is_addressed-clause-works
returns-then-not-is_addressed-clause-works g c = still_between (g.R.Disk.view c.args.rack.now) c.args.self.now c.requires.between
