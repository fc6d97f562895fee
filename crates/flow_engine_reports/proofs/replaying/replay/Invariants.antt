use Rattle.std.proofs.Common.{◌≤◌, take}
use Rattle.flow_engine_reports.specs.Replaying.{IsReplayed}
use Rattle.flow_engine_reports.proofs.replaying.replay.Given as goal

abbrev pub invariant-loop-n : goal.invariant-loop-n
invariant-loop-n l = record {
  low : 1 ≤ l.n;
  replayed : IsReplayed l.fn.flow.seen.given l.fn.flow.seen.run (take l.n l.journal.items) l.flow;
}
