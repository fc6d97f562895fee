use Rattle.std.proofs.Common.{sym}
use Rattle.flow_world_parts.proofs.Told.{never_unfound, to_be_told_itself, waits_itself}
use Rattle.flow_world_parts.proofs.moves.tell.Goals as goal

pub unreachable-requires : goal.unreachable-requires
unreachable-requires g c = never_unfound c.args.engine.now c.args.answers.now c.args.issue c.requires.least.0 (sym c.in_default.ensures.found)

pub tell_issue-requires-clause-waits : goal.tell_issue-requires-clause-waits
tell_issue-requires-clause-waits g c = waits_itself c.args.engine.now c.args.answers.now c.args.issue c.in-Some.told.now c.requires.least (sym c.in-Some.ensures.found)

pub returns-clause-did : goal.returns-clause-did
returns-clause-did g c =
    c.tell_issue.ensures.did c.args.answers.now
    (to_be_told_itself c.args.answers.now (g.S.Disk.view c.args.site.now) c.args.engine.now c.requires.idle c.args.issue c.in-Some.told.now c.requires.least (sym c.in-Some.ensures.found))
