use Rattle.flow_fleet.proofs.Places.{rest_seen}
use Rattle.flow_world_parts.proofs.EngineSide.{engine_is}
use Rattle.flow_fleet_laws.specs.Views.{seen_from}
use Rattle.flow_fleet.proofs.RunWork.{sent_work}
use Rattle.flow_fleet.proofs.run_side.put_issue.Goals as goal

pub returns-in-Ok-clause-rest : goal.returns-in-Ok-clause-rest
returns-in-Ok-clause-rest g c =
    rest_seen c.args.place (g.R.Disk.view c.args.rack.now) (g.R.Disk.view c.send_at-done.new.rack) _ c.in-Ok.ensures.ok.put

pub returns-in-Ok-clause-work : goal.returns-in-Ok-clause-work
returns-in-Ok-clause-work g c =
    let w = c.send_at-done.new.engine in
    let sn = g.R.Disk.view c.send_at-done.new.rack in
    sent_work c.args.place c.args.issue c.args.now (g.R.Disk.view c.args.rack.now) sn c.args.engine.now w c.in-Ok.ensures.ok c.requires.work
    (engine_is w (seen_from c.args.place sn) c.send_at-done.ensures.ready c.law.ensures.history c.law.ensures.put)
