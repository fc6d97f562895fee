use Rattle.std.proofs.Common.{◌≡◌, map, length}
use Rattle.cacao_cli_words.specs.RunBooks.{run_of}
use Rattle.cacao_cli_words.specs.Requests.{are_apart}
use Rattle.cacao_cli_words.proofs.fleet_reading.are_apart.Given as goal

abbrev pub invariant-loop-rest : goal.invariant-loop-rest
invariant-loop-rest l = are_apart (map run_of l.fn.runs) ≡ are_apart (map run_of l.rest)

abbrev pub decreases-loop-rest : goal.decreases-loop-rest
decreases-loop-rest l = length l.rest
