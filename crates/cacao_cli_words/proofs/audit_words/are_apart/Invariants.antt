use Rattle.std.proofs.Common.{◌≡◌, map, length}
use Rattle.cacao_cli_words.specs.Commands.{filter_of}
use Rattle.cacao_cli_words.specs.Requests.{are_apart}
use Rattle.cacao_cli_words.proofs.audit_words.are_apart.Given as goal

abbrev pub invariant-loop-rest : goal.invariant-loop-rest
invariant-loop-rest l = are_apart (map filter_of l.fn.filters) ≡ are_apart (map filter_of l.rest)

abbrev pub decreases-loop-rest : goal.decreases-loop-rest
decreases-loop-rest l = length l.rest
