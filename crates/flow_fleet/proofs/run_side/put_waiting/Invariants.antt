use Rattle.std.proofs.Common.{◌≡◌, ℕ, ◌≤◌, None}
use Rattle.flow_engine.specs.OpenIssues.{puts_of}
use Rattle.flow_world_steps.specs.Worlds.{rests}
use Rattle.flow_world_parts.specs.Leads.{ArePutBelow, IsAtWork}
use Rattle.flow_fleet_laws.specs.Views.{seen_from}
use Rattle.flow_fleet.specs.Leads.{Below, LeavesRest, RunGoes, same_turn}
use Rattle.flow_fleet.proofs.run_side.put_waiting.Given as goal

abbrev pub invariant-loop-issue : goal.invariant-loop-issue
invariant-loop-issue g l = record {
  goes : RunGoes (Below l.fn.place) 0 same_turn l.fn.place (g.R.Disk.view l.fn.rack) l.fn.engine rests (g.R.Disk.view l.rack) l.engine rests;
  work : IsAtWork l.engine (seen_from l.fn.place (g.R.Disk.view l.rack));
  put : ArePutBelow l.issue l.engine;
  unput : (other : ℕ) → l.issue ≤ other → puts_of l.engine.puts other ≡ None;
  history : l.engine.history ≡ l.fn.engine.history;
  rest : LeavesRest l.fn.place (g.R.Disk.view l.fn.rack) (g.R.Disk.view l.rack);
}
