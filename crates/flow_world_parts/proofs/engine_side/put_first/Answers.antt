use Rattle.std.proofs.Common.{ℕ, subst, sym}
use Rattle.flow_world_steps.specs.EngineCalls.{Sends}
use Rattle.flow_world_steps.specs.Worlds.{rests}
use Rattle.flow_world_parts.specs.Leads.{AnyNotes, EngineRefuses}
use Rattle.flow_world_parts.specs.declared.error.WorldError.{WorldError}
use Rattle.flow_world_parts.specs.declared.error.WorldError.TheVariants as error
use Rattle.flow_world_parts.proofs.EngineSide.{put_below, put_goes, put_others}
use Rattle.flow_world_parts.proofs.EngineSteps.{stays_there, wants}
use Rattle.flow_world_parts.proofs.engine_side.put_first.Goals as goal

pub returns-then-not-awaits-clause-did : goal.returns-then-not-awaits-clause-did
returns-then-not-awaits-clause-did g c = stays_there AnyNotes (g.S.Disk.view c.args.site.now) c.args.engine.now rests

pub returns-in-Ok-clause-did : goal.returns-in-Ok-clause-did
returns-in-Ok-clause-did g c =
    let so = g.S.Disk.view c.args.site.now in
    let sn = g.S.Disk.view c.put_issue.new.site in
    let w = c.put_issue.new.engine in
    put_goes c.args.engine.now w c.args.issue so sn c.requires.put (subst (λ (n : ℕ). Sends c.args.engine.now w c.args.issue n so sn) c.requires.now c.in-Ok.ensures.sends)
    (g.met.S.Disk.sound c.args.site.now) c.requires.work.up c.requires.unput c.in-Ok.ensures.work.up.has_file.engine

pub returns-in-Ok-clause-put : goal.returns-in-Ok-clause-put
returns-in-Ok-clause-put g c =
    let so = g.S.Disk.view c.args.site.now in
    let sn = g.S.Disk.view c.put_issue.new.site in
    let w = c.put_issue.new.engine in
    put_below c.args.engine.now w c.args.issue so sn c.requires.put (subst (λ (n : ℕ). Sends c.args.engine.now w c.args.issue n so sn) c.requires.now c.in-Ok.ensures.sends)

pub returns-in-Ok-clause-others : goal.returns-in-Ok-clause-others
returns-in-Ok-clause-others g c =
    let so = g.S.Disk.view c.args.site.now in
    let sn = g.S.Disk.view c.put_issue.new.site in
    let w = c.put_issue.new.engine in
    put_others c.args.engine.now w c.args.issue so sn c.requires.put (subst (λ (n : ℕ). Sends c.args.engine.now w c.args.issue n so sn) c.requires.now c.in-Ok.ensures.sends)

pub returns-in-Err-clause-did : goal.returns-in-Err-clause-did
returns-in-Err-clause-did g c =
    let so = g.S.Disk.view c.args.site.now in
    let refused = c.in-Err.ensures.refused in
    subst (λ (e : WorldError). EngineRefuses AnyNotes e so c.args.engine.now rests (g.S.Disk.view c.put_issue.new.site)) (sym refused.0)
    (subst (λ s. EngineRefuses AnyNotes error.Memory so c.args.engine.now rests (g.S.Disk.view s)) (sym refused.2) (wants AnyNotes so c.args.engine.now rests tt))
