use Rattle.flow_world_parts.proofs.Standing.{filters_kept}
use Rattle.flow_world_parts.proofs.engine_side.put_issue.Goals as goal

pub returns-in-Ok-clause-filters : goal.returns-in-Ok-clause-filters
returns-in-Ok-clause-filters g c = filters_kept (g.S.Disk.view c.args.site.now) (g.S.Disk.view c.send-done.new.site) c.in-Ok.ensures.ok.put.disk.disk
