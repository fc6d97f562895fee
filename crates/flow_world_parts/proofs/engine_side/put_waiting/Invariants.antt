use Rattle.std.proofs.Common.{◌≡◌, ℕ, ◌≤◌, None}
use Rattle.flow_world_steps.specs.OpenIssues.{puts_of}
use Rattle.flow_world_steps.specs.Worlds.{rests}
use Rattle.flow_world_parts.specs.Leads.{AnyNotes, ArePutBelow, EngineGoes, IsAtWork}
use Rattle.flow_world_parts.proofs.engine_side.put_waiting.Given as goal

abbrev pub invariant-loop-issue : goal.invariant-loop-issue
invariant-loop-issue g l = record {
  goes : EngineGoes AnyNotes 0 (g.S.Disk.view l.fn.site) l.fn.engine rests (g.S.Disk.view l.site) l.engine rests;
  work : IsAtWork l.engine (g.S.Disk.view l.site);
  put : ArePutBelow l.issue l.engine;
  unput : (other : ℕ) → l.issue ≤ other → puts_of l.engine.puts other ≡ None;
  history : l.engine.history ≡ l.fn.engine.history;
  now : (g.S.Disk.view l.site).clock.now ≡ (g.S.Disk.view l.fn.site).clock.now;
}
