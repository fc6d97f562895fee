use Rattle.std.proofs.Common.{◌≡◌, arith}
use Rattle.flow_world_steps.specs.Turns.{most_ignored}
use Rattle.flow_world_steps.specs.Worlds.{holds, rests}
use Rattle.flow_world_parts.specs.declared.close.Close.TheVariants as close
use Rattle.flow_world_parts.proofs.SessionSteps.{flooded, then_closes}
use Rattle.flow_world_parts.proofs.turns.Session.deliver.Goals as goal

pub returns-then-self-ge-MOST_IGNORED-clause-turned : goal.returns-then-self-ge-MOST_IGNORED-clause-turned
returns-then-self-ge-MOST_IGNORED-clause-turned g c = λ answers beat.
    let so = g.S.Disk.view c.args.site.now in
    let sn = g.S.Disk.view c.hand_on.new.site in
    let many : c.hand_on.new.self.ignored ≡ most_ignored = omega (arith, c.if-self-ge-MOST_IGNORED.true, c.in-Ok.ensures.few, c.requires.calm) in
    then_closes answers close.Flooded so sn sn c.args.self.now c.hand_on.new.self (holds beat c.args.parcel.now) rests (c.in-Ok.ensures.did answers beat) (flooded answers sn c.hand_on.new.self many)
