use Rattle.std.proofs.Common.{ap}
use Rattle.flow_world_parts.proofs.MoveSteps.{put_waits, resend_did, resend_put}
use Rattle.flow_world_parts.proofs.moves.resend.Goals as goal

pub put_issue-requires-clause-waiting : goal.put_issue-requires-clause-waiting
put_issue-requires-clause-waiting g c = put_waits c.args.engine.now c.args.issue c.requires.next.0 c.law.ensures.put c.requires.next.1

pub returns-clause-did : goal.returns-clause-did
returns-clause-did g c answers on_time =
    resend_did answers (g.S.Disk.view c.args.site.now) c.args.engine.now c.args.site.now c.put_issue.new.site c.put_issue.result c.args.issue c.requires.next.0 c.args.now (g.S.Disk.view c.put_issue.new.site) c.put_issue.new.engine
    on_time c.requires.next.1 c.requires.next.2 c.requires.now c.put_issue.ensures.sends c.put_issue.ensures.work
    c.put_issue.ensures.refused (λ same. ap g.S.Disk.view same)

pub returns-clause-put : goal.returns-clause-put
returns-clause-put g c = resend_put c.put_issue.result c.args.issue c.args.now (g.S.Disk.view c.args.site.now) (g.S.Disk.view c.put_issue.new.site) c.args.engine.now c.put_issue.new.engine c.put_issue.ensures.sends
