use Rattle.std.proofs.Common.{◌≤◌, take}
use Rattle.flow_engine_history.specs.Replays.{IsReplayed}
use Rattle.flow_engine_history.proofs.opening.replay_others.Given as goal

abbrev pub invariant-loop-n : goal.invariant-loop-n
invariant-loop-n l = record {
  low : 1 ≤ l.n;
  replayed : IsReplayed l.fn.flow.seen.given l.fn.flow.seen.run (take l.n l.journal.items) l.flow l.stands.items;
}
