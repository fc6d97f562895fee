use Rattle.std.proofs.Common.{◌≡◌, ◌++◌, map, length}
use Rattle.std.specs.Prelude.{option_map}
use Rattle.cacao_cli_words.specs.RunBooks.{run_of}
use Rattle.cacao_cli_words.specs.Requests.{run_number, pairs_of}
use Rattle.cacao_cli_words.proofs.fleet_reading.runs_of.Given as goal

abbrev pub invariant-loop-rest : goal.invariant-loop-rest
invariant-loop-rest l = pairs_of run_number (map (λ name. name.now) l.fn.names) ≡ option_map (λ more. map run_of l.runs.items ++ more) (pairs_of run_number (map (λ name. name.now) l.rest))

abbrev pub decreases-loop-rest : goal.decreases-loop-rest
decreases-loop-rest l = length l.rest
