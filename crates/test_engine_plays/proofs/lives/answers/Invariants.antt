use Rattle.flow_engine_history.specs.HistoryView.{IsReady}
use Rattle.test_engine_plays.proofs.lives.answers.Given as goal

abbrev pub invariant-loop-call : goal.invariant-loop-call
invariant-loop-call g l = IsReady l.engine.history (g.S.Disk.view l.site)
