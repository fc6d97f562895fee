use Rattle.std.proofs.Common.{◌≡◌}
use Rattle.cacao_cli_rehearsal.specs.Books.{put_all, steps_to}
use Rattle.cacao_cli_rehearsal.proofs.steps.put_positions.Given as goal

abbrev pub invariant-loop-before : goal.invariant-loop-before
invariant-loop-before l = l.steps ≡ put_all (steps_to l.fn.last l.before) l.fn.steps
