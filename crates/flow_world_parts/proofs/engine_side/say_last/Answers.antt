use Rattle.flow_world_parts.proofs.EngineSteps.{last_line, line_said, line_unsaid, wants}
use Rattle.flow_world_parts.proofs.Standing.{filters_kept, work_stays}
use Rattle.flow_world_steps.specs.Worlds.{owes}
use Rattle.flow_world_parts.specs.Leads.{AnyNotes}
use Rattle.flow_world_parts.proofs.engine_side.say_last.Goals as goal

pub returns-in_default-clause-did : goal.returns-in_default-clause-did
returns-in_default-clause-did g c = wants AnyNotes (g.S.Disk.view c.args.site.now) c.args.engine.now owes tt

pub returns-in-Ok-say-clause-did : goal.returns-in-Ok-say-clause-did
returns-in-Ok-say-clause-did g c =
    line_said c.args.engine.now (g.S.Disk.view c.args.site.now) (g.S.Disk.view c.say.new.self) c.as_slice.result.now (g.met.S.Disk.sound c.args.site.now) c.requires.work.up
    (last_line c.args.engine.now c.in-Ok.line c.as_slice.result.now c.requires.work.up c.in-Ok.ensures c.as_slice.ensures) c.in-Ok-say.ensures.only
    c.in-Ok-say.ensures.said c.in-Ok-say.ensures.unsaid

pub returns-in-Ok-say-clause-work : goal.returns-in-Ok-say-clause-work
returns-in-Ok-say-clause-work g c =
    work_stays c.args.engine.now (g.S.Disk.view c.args.site.now) (g.S.Disk.view c.say.new.self) c.in-Ok-say.ensures.only.disk c.in-Ok-say.ensures.only.time.now c.requires.work

pub returns-clause-did : goal.returns-clause-did
returns-clause-did g c =
    line_unsaid c.args.engine.now (g.S.Disk.view c.args.site.now) (g.S.Disk.view c.say.new.self) c.as_slice.result.now (g.met.S.Disk.sound c.args.site.now) c.requires.work.up
    (last_line c.args.engine.now c.in-Ok.line c.as_slice.result.now c.requires.work.up c.in-Ok.ensures c.as_slice.ensures) c.in-Err.ensures.only
    c.in-Err.ensures.said_before c.in-Err.ensures.cause

pub returns-in-Ok-say-clause-filters : goal.returns-in-Ok-say-clause-filters
returns-in-Ok-say-clause-filters g c = filters_kept (g.S.Disk.view c.args.site.now) (g.S.Disk.view c.say.new.self) c.in-Ok-say.ensures.only.disk
