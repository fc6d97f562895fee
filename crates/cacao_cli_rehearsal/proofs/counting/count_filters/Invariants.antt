use Rattle.std.proofs.Common.{◌≡◌, ◌+◌, ◌-◌, ◌*◌, ◌≤◌, List, take}
use Rattle.slpf_actuator.specs.ActuatorView.{ActuatorView}
use Rattle.flow_world_steps.specs.Sides.{AreFilters}
use Rattle.flow_world_steps.specs.Spent.{all_acts}
use Rattle.flow_world.specs.Openings.{blocks_to}
use Rattle.cacao_cli_rehearsal.specs.Counts.{KeepsImages, all_rules}
use Rattle.cacao_cli_rehearsal.proofs.counting.count_filters.Given as goal

abbrev pub invariant-loop-agent : goal.invariant-loop-agent
invariant-loop-agent g l = record {
  low : 1 ≤ l.agent;
  keeps : KeepsImages (g.D.Disk.view l.fn.disk).disk (g.D.Disk.view l.disk).disk;
  calls : (g.D.Disk.view l.disk).disk.calls ≤ (g.D.Disk.view l.fn.disk).disk.calls + 3 * (l.agent - 1) + blocks_to (l.agent - 1) (g.D.Disk.view l.disk).disk;
  says : (g.D.Disk.view l.disk).counts.says ≡ (g.D.Disk.view l.fn.disk).counts.says;
  first : (g.D.Disk.view l.disk).disk.reads 0 ≡ (g.D.Disk.view l.fn.disk).disk.reads 0;
  acts : (filters : List ActuatorView) → AreFilters filters (g.D.Disk.view l.fn.disk) → l.all.acts ≡ all_acts (take (l.agent - 1) filters);
  rules : (filters : List ActuatorView) → AreFilters filters (g.D.Disk.view l.fn.disk) → l.all.rules ≡ all_rules (take (l.agent - 1) filters);
  few_acts : l.all.acts ≤ 4294967296 * (l.agent - 1);
  few_rules : l.all.rules ≤ 65537 * (l.agent - 1);
}
