use Rattle.std.proofs.Common.{◌≡◌, ◌++◌, drop}
use Rattle.cacao_view_preflight.specs.Warnings.{each, of_command}
use Rattle.cacao_view_preflight.proofs.commands.add_commands.Given as goal

abbrev pub invariant-loop-c : goal.invariant-loop-c
invariant-loop-c l =
    l.lines ++ each (of_command l.own l.outer l.n l.key) l.c (drop l.c l.commands) ≡ l.fn.lines ++ each (of_command l.own l.outer l.n l.key) 0 l.commands
