use Rattle.std.proofs.Common.{◌≡◌, arith}
use Rattle.flow_world_steps.specs.Turns.{most_ignored}
use Rattle.flow_world_steps.specs.Worlds.{holds, rests}
use Rattle.flow_fleet_steps.specs.declared.close.FleetClose.TheVariants as close
use Rattle.flow_fleet.proofs.FleetLemmas.{goes_to_close}
use Rattle.flow_fleet.proofs.TurnLemmas.{flooded}
use Rattle.flow_fleet.proofs.fleet_state.Fleet.deliver.Goals as goal

pub returns-then-self-ge-MOST_IGNORED-clause-turned : goal.returns-then-self-ge-MOST_IGNORED-clause-turned
returns-then-self-ge-MOST_IGNORED-clause-turned g c = λ beat.
    let so = g.R.Disk.view c.args.rack.now in
    let sn = g.R.Disk.view c.hand_on.new.rack in
    let many : c.hand_on.new.self.ignored ≡ most_ignored = omega (arith, c.if-self-ge-MOST_IGNORED.true, c.in-Ok.ensures.few, c.requires.between.calm) in
    goes_to_close close.Flooded so sn sn c.args.self.now c.hand_on.new.self (holds beat c.args.parcel.now) rests (c.in-Ok.ensures.did beat) (flooded sn c.hand_on.new.self many)
