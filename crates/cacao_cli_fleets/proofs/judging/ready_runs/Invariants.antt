use Rattle.std.specs.Vec.Iter.{into_iter_items, into_iter_len}
use Rattle.cacao_cli_fleets.specs.Judging.{runs_in}
use Rattle.cacao_cli_fleets.proofs.ReadyLemmas.{SoFar}
use Rattle.cacao_cli_fleets.proofs.judging.ready_runs.Given as goal

abbrev pub invariant-loop-text : goal.invariant-loop-text
invariant-loop-text l = SoFar l.fn.pairs l.fn.texts.items (into_iter_items l.text-iterator) (into_iter_len l.text-iterator) l.place (runs_in l.runs)
