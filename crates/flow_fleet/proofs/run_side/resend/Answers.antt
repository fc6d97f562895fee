use Rattle.flow_world_parts.proofs.MoveSteps.{put_waits}
use Rattle.flow_fleet.proofs.RunWork.{resend_did, resend_put}
use Rattle.flow_fleet.proofs.run_side.resend.Goals as goal

pub put_issue-requires-clause-waiting : goal.put_issue-requires-clause-waiting
put_issue-requires-clause-waiting g c = put_waits c.args.engine.now c.args.issue c.args.moment c.law.ensures.put c.requires.next

pub returns-clause-did : goal.returns-clause-did
returns-clause-did g c =
    resend_did c.args.place c.args.moment c.args.issue c.args.now (g.R.Disk.view c.args.rack.now) (g.R.Disk.view c.put_issue.new.rack) c.args.engine.now c.put_issue.new.engine c.put_issue.result
    (g.met.R.Disk.sound c.args.rack.now) c.requires.work c.requires.next c.requires.come c.requires.now c.put_issue.ensures.sends c.put_issue.ensures.work c.put_issue.ensures.refused

pub returns-clause-put : goal.returns-clause-put
returns-clause-put g c =
    resend_put c.args.place c.args.moment c.args.issue c.args.now (g.R.Disk.view c.args.rack.now) (g.R.Disk.view c.put_issue.new.rack) c.args.engine.now c.put_issue.new.engine c.put_issue.result c.put_issue.ensures.sends c.requires.put
