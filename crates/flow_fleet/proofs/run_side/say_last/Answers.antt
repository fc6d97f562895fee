use Rattle.std.proofs.Common.{◌∙◌, ◌++◌}
use Rattle.flow_world_steps.specs.Worlds.{owes}
use Rattle.flow_fleet.specs.Leads.{Owing}
use Rattle.flow_fleet.proofs.RunCalls.{said_as, work_kept}
use Rattle.flow_fleet.proofs.Places.{rest_kept}
use Rattle.flow_fleet.proofs.RunSteps.{line_said, line_unsaid, wants}
use Rattle.flow_fleet_laws.specs.Speeches.{head_of}
use Rattle.flow_fleet.proofs.run_side.say_last.Goals as goal

pub returns-in_default-clause-did : goal.returns-in_default-clause-did
returns-in_default-clause-did g c = wants (Owing c.args.place) c.args.place (g.R.Disk.view c.args.rack.now) c.args.engine.now owes tt

pub returns-in-Ok-say-clause-did : goal.returns-in-Ok-say-clause-did
returns-in-Ok-say-clause-did g c =
    let so = g.R.Disk.view c.args.rack.now in
    let sn = g.R.Disk.view c.say.new.self in
    let v = c.args.engine.now in
    let line = c.in-Ok.ensures in
    line_said c.args.place v so sn line.bytes (g.met.R.Disk.sound c.args.rack.now) c.requires.work.up line.line c.in-Ok-say.ensures.only
    (said_as so.link.said sn.link.said sn.disk.beat c.as_slice.result.now (head_of v.history.seen.run ++ line.bytes) (c.as_slice.ensures.value ∙ line.is) c.in-Ok-say.ensures.said) c.in-Ok-say.ensures.unsaid

pub returns-in-Ok-say-clause-work : goal.returns-in-Ok-say-clause-work
returns-in-Ok-say-clause-work g c =
    work_kept c.args.place c.args.engine.now (g.R.Disk.view c.args.rack.now) (g.R.Disk.view c.say.new.self) c.in-Ok-say.ensures.only.disk c.in-Ok-say.ensures.only.time.now c.requires.work

pub returns-in-Ok-say-clause-rest : goal.returns-in-Ok-say-clause-rest
returns-in-Ok-say-clause-rest g c =
    rest_kept c.args.place (g.R.Disk.view c.args.rack.now) (g.R.Disk.view c.say.new.self) c.in-Ok-say.ensures.only.disk c.in-Ok-say.ensures.only.time.now

pub returns-clause-did : goal.returns-clause-did
returns-clause-did g c =
    let line = c.in-Ok.ensures in
    line_unsaid c.args.place c.args.engine.now (g.R.Disk.view c.args.rack.now) (g.R.Disk.view c.say.new.self) line.bytes (g.met.R.Disk.sound c.args.rack.now) c.requires.work.up line.line c.in-Err.ensures.only
    c.in-Err.ensures.said_before c.in-Err.ensures.cause
