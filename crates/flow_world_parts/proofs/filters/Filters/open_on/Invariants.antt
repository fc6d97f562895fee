use Rattle.std.proofs.Common.{◌-◌, ◌≤◌}
use Rattle.flow_world_parts.specs.Openings.{OpensFilters}
use Rattle.flow_world_parts.proofs.filters.Filters.open_on.Given as goal

abbrev pub invariant-loop-agent : goal.invariant-loop-agent
invariant-loop-agent g l = record {
  opens : OpensFilters (l.agent - 1) (g.D.Disk.view l.fn.disk) (g.D.Disk.view l.disk) l.list.items;
  low : 1 ≤ l.agent;
}
