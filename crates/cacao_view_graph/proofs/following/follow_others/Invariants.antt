use Rattle.std.proofs.Common.{◌≤◌, take}
use Rattle.cacao_view_log.specs.Sources.{items_of}
use Rattle.cacao_view_graph.specs.Following.{IsFollowed}
use Rattle.cacao_view_graph.proofs.following.follow_others.Given as goal

abbrev pub invariant-loop-n : goal.invariant-loop-n
invariant-loop-n l = record {
  low : 1 ≤ l.n;
  followed : IsFollowed l.fn.flow.seen.given l.fn.flow.seen.run (take l.n (items_of l.source)) l.flow l.course;
}
