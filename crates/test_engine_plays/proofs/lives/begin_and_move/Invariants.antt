use Rattle.flow_engine_history.specs.HistoryView.{IsReady}
use Rattle.test_engine_plays.proofs.lives.begin_and_move.Given as goal

abbrev pub invariant-loop : goal.invariant-loop
invariant-loop g l = IsReady l.engine.history (g.S.Disk.view l.site)
