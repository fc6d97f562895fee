use Rattle.std.proofs.Common.{◌-◌}
use Rattle.flow_world_steps.specs.Spent.{most_spent}
use Rattle.flow_world_steps.specs.Worlds.{rests}
use Rattle.flow_world_parts.specs.Leads.{Goes, IsBetweenTurns}
use Rattle.flow_world_parts.specs.Used.{used}
use Rattle.flow_world_parts.proofs.turns.Session.run_on.Given as goal

abbrev pub invariant-loop-well : goal.invariant-loop-well
invariant-loop-well g l = record {
  goes : Goes l.fn.answers (g.S.Disk.view l.fn.site) l.fn.self rests (g.S.Disk.view l.site) l.self rests;
  between : IsBetweenTurns l.self (g.S.Disk.view l.site);
}

abbrev pub decreases-loop-well : goal.decreases-loop-well
decreases-loop-well g l = most_spent - used (g.S.Disk.view l.site) l.self
